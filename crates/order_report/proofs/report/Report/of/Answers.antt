use Rattle.std.proofs.Common.{rules, arith}
use Rattle.std.proofs.lemmas.Grind.{common_steps}
use Rattle.order_report.proofs.Meaning.{no_full_order, full_order, own_verdict, own_meaning, allowed_exactly}
use Rattle.order_report.proofs.report.Report.of.Goals as goal

pub returns-in_default : goal.returns-in_default
returns-in_default c = no_full_order _ _ c.in_default.ensures

pub returns : goal.returns
returns c =
    let same = c.in-Some.ensures in
    let rule = c.of-2.ensures in
    let told = c.verdict-verdict.ensures in
    let value = own_verdict c.args.round _ _ _ _ c.args.doors _ _ rule.pairs rule.load rule.keepers same.0 same.1 told.value in
    let means = own_meaning c.args.round _ _ _ _ c.args.doors _ _ rule.pairs rule.load rule.keepers same.0 same.1 told.means in
    record {
      full = full_order c.args.round _ _ _ _ c.args.doors _ _ rule.pairs rule.load rule.keepers same.0 same.1 c.in-Some.order.part value c.in_default-verdict.not-Incomplete;
      doors = search rules;
      finishes = search rules;
      verdict = value;
      means = means;
      allowed = allowed_exactly _ _ _ means;
      driving = search rules;
      late = grind (arith, common_steps);
    }
