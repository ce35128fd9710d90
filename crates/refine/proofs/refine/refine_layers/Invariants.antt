use Rattle.layers.specs.Settings.{lent_setting}
use Rattle.std.proofs.Common.{◌≡◌, ◌-◌, true, length}
use Rattle.labels.specs.Passes.{fits}
use Rattle.refine.specs.Steps.{some_layers}
use Rattle.refine.proofs.refine.refine_layers.Given as goal

abbrev pub invariant-loop-i : goal.invariant-loop-i
invariant-loop-i g l =
    let by = lent_setting l.by (g.R.Rule.sense l.by.rule.now) (g.T.Tally.sense l.by.tally.now) in
    (fits by.round.n by.width (length l.nodes) ≡ true)
    × (some_layers by (by.round.n - l.i) l.i l.nodes ≡ some_layers by (by.round.n - 1) 1 l.initial.nodes)
