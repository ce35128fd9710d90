use Rattle.std.proofs.Common.{◌≡◌, ◌++◌, sym, ap, ◌∙◌, subst, arith}
use Rattle.std.proofs.lemmas.List.{drop_all}
use Rattle.layers.specs.Calls.{after_open, after_calls}
use Rattle.layers.specs.Claim.{ClaimHolds}
use Rattle.layers.proofs.Main.{kept}
use Rattle.diagram.specs.Words.{records_of, setting_of}
use Rattle.diagram.proofs.Runs.{calls-append}
use Rattle.diagram.proofs.diagram.Diagram.run.Goals as goal

pub returns-clause-records : goal.returns-clause-records
returns-clause-records g c =
    let by = setting_of c.args.self.now (g.R.Rule.sense c.args.rule.now) (g.T.Tally.sense c.args.tally.now) in
    sym (ap (λ cs. after_calls by cs (records_of c.loop-call.self)) (drop_all c.loop-call.call-index c.args.calls.now (omega arith))) ∙ c.loop-call.invariant.2

pub returns-clause-claim : goal.returns-clause-claim
returns-clause-claim g c e f lent before h =
    let d = c.args.self.now in
    let R = g.R.Rule.sense c.args.rule.now in
    let T = g.T.Tally.sense c.args.tally.now in
    let by = setting_of d R T in
    let cs = c.args.calls.now in
    let end : records_of c.loop-call.self ≡ after_calls by cs (records_of d) = returns-clause-records g c in
    let all : records_of c.loop-call.self ≡ after_calls by (before ++ cs) (after_open by lent) = end ∙ ap (after_calls by cs) h ∙ sym (calls-append by before cs (after_open by lent)) in
    subst (ClaimHolds by (g.R.Rule.keeps c.args.rule.now) (before ++ cs)) (sym all)
    (kept _ _ R T (λ n h. g.met.R.Rule.lawful c.args.rule.now n h) (λ n h. g.met.T.Tally.lawful c.args.tally.now n h) d.room.round.now e f d.room.width d.room.wide d.room.narrow lent (before ++ cs))
