use Rattle.std.proofs.Common.{arith}
use Rattle.std.proofs.lemmas.List.Edits.{map_over_more}
use Rattle.labels.specs.Passes.{unlabelled}
use Rattle.labels.proofs.relabel.unlabel.Goals as goal

pub loop-v-preserved : goal.loop-v-preserved
loop-v-preserved g c =
    let f = unlabelled (g.R.Rule.sense c.args.rule.now) (g.T.Tally.sense c.args.tally.now) in
    rw (← c.v-item.is, c.blank_node.ensures) (map_over_more f c.args.vs.now c.loop-v.vs c.loop-v.v-index c.v-item.result (omega arith) c.loop-v.invariant c.v-item.is)
