use Rattle.std.proofs.Common.{◌≡◌, suc, ◌-◌, refl, arith}
use Rattle.filter.specs.Steps.{arc_count}
use Rattle.refine.proofs.Turns.{sweeps_more, sweeps_none}
use Rattle.refine.proofs.refine.sweep_out.Goals as goal

pub loop-turn-init : goal.loop-turn-init
unfolding arc_count
loop-turn-init g c =
    let all : suc c.count_arcs-most.result - 0 ≡ suc c.count_arcs-most.result = omega arith in
    (c.requires, rw (all, c.count_arcs-most.ensures, c.requires) refl)

pub returns-then-sweep_once-eq0 : goal.returns-then-sweep_once-eq0
returns-then-sweep_once-eq0 g c = grind (arith, sweeps_more)

pub returns-else-sweep_once-eq0 : goal.returns-else-sweep_once-eq0
returns-else-sweep_once-eq0 g c = grind (arith, sweeps_more, sweeps_none)

pub loop-turn-preserved : goal.loop-turn-preserved
loop-turn-preserved g c = grind (arith, sweeps_more)
