use Rattle.std.proofs.Common.{◌≡◌}
use Rattle.tallies.specs.Tallies.{TallySense}
use Rattle.layers.specs.Settings.{setting}
use Rattle.split.specs.Steps.{agreed_layers}
use Rattle.split.proofs.agreeing.agreed.Given as goal

abbrev pub invariant-loop-k : goal.invariant-loop-k
invariant-loop-k g l = (s : TallySense g.row.V.Denot) → l.all ≡ agreed_layers (setting l.round (g.R.Rule.sense l.rule) s l.width) l.k l.nodes
