use Rattle.std.proofs.Common.{sym, ◌∙◌, arith}
use Rattle.labels.specs.Passes.{cleared}
use Rattle.labels.proofs.Steps.{renewed_more, renewed_stop, renewed_all}
use Rattle.labels.proofs.down.clear.Goals as goal

pub loop-v-preserved : goal.loop-v-preserved
loop-v-preserved g c =
    let f = cleared (g.R.Rule.sense c.args.rule.now) (g.T.Tally.sense c.args.tally.now) in
    rw c.unreached-blank.ensures (renewed_more f c.loop-v.vs c.loop-v.v-index c.v-item.result (omega arith) c.if-v-eq0.false ∙ c.loop-v.invariant)

pub returns-after-loop-v : goal.returns-after-loop-v
returns-after-loop-v g c = sym (renewed_all (cleared (g.R.Rule.sense c.args.rule.now) (g.T.Tally.sense c.args.tally.now)) c.loop-v.vs c.loop-v.v-index (omega arith)) ∙ c.loop-v.invariant

pub returns-then-v-eq0 : goal.returns-then-v-eq0
returns-then-v-eq0 g c = renewed_stop (cleared (g.R.Rule.sense c.args.rule.now) (g.T.Tally.sense c.args.tally.now)) c.loop-v.vs c.loop-v.v-index c.v-item.result (omega arith) c.if-v-eq0.true ∙ c.loop-v.invariant
