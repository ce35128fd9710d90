use Rattle.layers.specs.Settings.{lent_setting}
use Rattle.std.proofs.Common.{◌≡◌, suc, ◌-◌, true, length}
use Rattle.std.specs.Prelude.{nat_lt}
use Rattle.labels.specs.Passes.{fits}
use Rattle.filter.specs.Steps.{arc_count}
use Rattle.refine.specs.Steps.{sweeps_out}
use Rattle.refine.proofs.refine.sweep_out.Given as goal

abbrev pub invariant-loop-turn : goal.invariant-loop-turn
invariant-loop-turn g l =
    let by = lent_setting l.by (g.R.Rule.sense l.by.rule.now) (g.T.Tally.sense l.by.tally.now) in
    (fits by.round.n by.width (length l.nodes) ≡ true)
    × (sweeps_out by l.known (suc l.most - l.turn) l.nodes ≡ sweeps_out by (nat_lt 1 by.round.n) (suc (arc_count by.round.n by.width l.initial.nodes)) l.initial.nodes)
