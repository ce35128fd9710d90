use Rattle.std.proofs.Common.{◌≡◌, take, fold}
use Rattle.layers.specs.Settings.{lent_setting}
use Rattle.labels.specs.Passes.{crossed}
use Rattle.labels.proofs.down.spread_node.Given as goal

abbrev pub invariant-loop-k : goal.invariant-loop-k
invariant-loop-k g l = l.vs ≡ fold (crossed (lent_setting l.by (g.R.Rule.sense l.by.rule.now) (g.T.Tally.sense l.by.tally.now)) l.u) l.initial.vs (take l.k-index l.doors)
