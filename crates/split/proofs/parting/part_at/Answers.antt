use Rattle.std.proofs.Common.{suc, leb, ◌++◌, ap, ◌∙◌, ap₂}
use Rattle.layers.specs.Settings.{lent_setting}
use Rattle.split.specs.Steps.{group_check, alike, next_records}
use Rattle.split.proofs.Turns.{next_from}
use Rattle.split.proofs.parting.part_at.Goals as goal

pub returns : goal.returns
returns g c =
    let by = lent_setting c.args.by.now (g.R.Rule.sense c.args.by.now.rule.now) (g.T.Tally.sense c.args.by.now.tally.now) in
    let a = c.args.a in
    let m = c.args.count in
    let s = c.split_at_mut.ensures in
    record {
      answer = c.part_second.ensures.answer ∙ ap (λ ys. group_check (alike by 0 (suc a) ys) (leb by.width m)) s.back;
      records = ap₂ (λ ys zs. ys ++ zs) s.front (c.part_second.ensures.records ∙ ap (next_records by 0 a m) s.back) ∙ next_from by c.args.at a m c.args.nodes.now;
    }
