use Rattle.std.proofs.Common.{◌≡◌, ℕ, ◌+◌, ◌<◌, ◌≤◌, get_or, unwrap_or}
use Rattle.layers.specs.Labels.{leg}
use Rattle.labels.specs.Passes.{nearest_of}
use Rattle.labels.proofs.leg.legs.Given as goal

abbrev pub invariant-loop-k : goal.invariant-loop-k
invariant-loop-k l = record {
  done : (m : ℕ) → m < l.k → get_or l.legs m 0 ≡ leg l.round l.lasts (m + 1);
  rest : (m : ℕ) → l.k ≤ m → m < 16 → get_or l.legs m 0 ≡ unwrap_or (nearest_of l.round l.lasts (m + 1) (l.round.n + 1)) 1000;
}
