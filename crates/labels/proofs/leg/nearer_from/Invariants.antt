use Rattle.std.proofs.Common.{◌≡◌, ℕ, ◌+◌, ◌<◌, ◌≤◌, min, max, cond, eqb, get_or}
use Rattle.labels.proofs.leg.nearer_from.Given as goal

abbrev pub invariant-loop-k : goal.invariant-loop-k
invariant-loop-k l = record {
  done : (m : ℕ) → m < l.k → get_or l.best m 0 ≡ min (get_or l.initial.best m 0) (max (get_or l.row (m + 1) 0) (cond (eqb l.i (m + 1)) 1000 0));
  rest : (m : ℕ) → l.k ≤ m → get_or l.best m 0 ≡ get_or l.initial.best m 0;
}
