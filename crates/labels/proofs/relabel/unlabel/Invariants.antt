use Rattle.std.proofs.Common.{◌≡◌, ◌++◌, map, take, drop}
use Rattle.labels.specs.Passes.{unlabelled}
use Rattle.labels.proofs.relabel.unlabel.Given as goal

abbrev pub invariant-loop-v : goal.invariant-loop-v
invariant-loop-v g l = l.vs ≡ map (unlabelled (g.R.Rule.sense l.rule) (g.T.Tally.sense l.tally)) (take l.v-index l.initial.vs) ++ drop l.v-index l.initial.vs
