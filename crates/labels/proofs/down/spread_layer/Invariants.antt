use Rattle.std.proofs.Common.{◌≡◌, drop, fold}
use Rattle.labels.specs.Passes.{sources}
use Rattle.layers.specs.Settings.{lent_setting}
use Rattle.labels.specs.Passes.{spread}
use Rattle.labels.proofs.down.spread_layer.Given as goal

-- what is still to come gives what all nodes give
abbrev pub invariant-loop-u : goal.invariant-loop-u
invariant-loop-u g l =
    let f = spread (lent_setting l.by (g.R.Rule.sense l.by.rule.now) (g.T.Tally.sense l.by.tally.now)) in
    fold f l.vs (sources (drop l.u-index l.us)) ≡ fold f l.initial.vs (sources l.us)
