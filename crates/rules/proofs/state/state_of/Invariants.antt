use Rattle.std.proofs.Common.{◌≡◌, take}
use Rattle.rules.specs.Rules.{state_of}
use Rattle.rules.proofs.state.state_of.Given as goal

abbrev pub invariant-loop-j : goal.invariant-loop-j
invariant-loop-j g l = l.s ≡ state_of (g.R.Rule.sense l.rule) (take l.j-index l.doors)
