use Rattle.std.proofs.Common.{◌≡◌, ◌++◌, take, drop}
use Rattle.labels.specs.Passes.{renewed, cleared}
use Rattle.labels.proofs.down.clear.Given as goal

abbrev pub invariant-loop-v : goal.invariant-loop-v
invariant-loop-v g l =
    let f = cleared (g.R.Rule.sense l.rule) (g.T.Tally.sense l.tally) in
    take l.v-index l.vs ++ renewed f (drop l.v-index l.vs) ≡ renewed f l.initial.vs
