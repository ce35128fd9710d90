use Rattle.std.proofs.Common.{◌≡◌, ◌+◌, ◌-◌, ◌≤◌}
use Rattle.labels.specs.Passes.{nearest_of}
use Rattle.labels.proofs.leg.leg_from.Given as goal

abbrev pub invariant-loop-i : goal.invariant-loop-i
invariant-loop-i l = record {
  within : l.from ≤ l.round.n + 1;
  so_far : l.best ≡ nearest_of l.round l.lasts l.j l.from;
}

abbrev pub decreases-loop-i : goal.decreases-loop-i
decreases-loop-i l = l.round.n + 1 - l.from
