use Rattle.std.proofs.Common.{◌≡◌}
use Rattle.tallies.specs.Tallies.{TallySense}
use Rattle.layers.specs.Settings.{lent_setting}
use Rattle.labels.specs.Passes.{part}
use Rattle.split.specs.Steps.{agreed_to}
use Rattle.split.proofs.agreeing.layer_agreed.Given as goal

abbrev pub invariant-loop-b : goal.invariant-loop-b
invariant-loop-b g l = (s : TallySense g.row.V.Denot) → l.all ≡ agreed_to (lent_setting l.by (g.R.Rule.sense l.by.rule.now) s) l.b (part l.at l.by.width l.nodes)
