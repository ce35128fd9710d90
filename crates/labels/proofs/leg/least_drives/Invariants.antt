use Rattle.std.proofs.Common.{◌≡◌, ℕ, ◌+◌, ◌-◌, ◌<◌, ◌≤◌, get_or, unwrap_or}
use Rattle.labels.specs.Passes.{nearest_of}
use Rattle.labels.proofs.leg.least_drives.Given as goal

abbrev pub invariant-loop-i : goal.invariant-loop-i
invariant-loop-i l = record {
  within : l.from ≤ l.round.n + 1;
  so_far : (k : ℕ) → k < 16 → get_or l.best k 0 ≡ unwrap_or (nearest_of l.round l.lasts (k + 1) l.from) 1000;
}

abbrev pub decreases-loop-i : goal.decreases-loop-i
decreases-loop-i l = l.round.n + 1 - l.from
