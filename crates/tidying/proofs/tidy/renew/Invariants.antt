use Rattle.std.proofs.Common.{◌≡◌, ℕ, ◌<◌, ◌≤◌, get_or}
use Rattle.tidying.proofs.tidy.renew.Given as goal

abbrev pub invariant-loop-t : goal.invariant-loop-t
invariant-loop-t g l = record {
  done : (m : ℕ) → m < l.t-index → get_or l.t-items m 0 ≡ get_or l.new (get_or l.x.arcs.to m 0) 0;
  rest : (m : ℕ) → l.t-index ≤ m → get_or l.t-items m 0 ≡ get_or l.x.arcs.to m 0;
}
