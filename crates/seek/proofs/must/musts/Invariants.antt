-- The sets before this one are written.
use Rattle.std.proofs.Common.{◌≡◌, ℕ, ◌<◌, length, get_or}
use Rattle.seek.specs.Musts.{behind}
use Rattle.seek.proofs.must.musts.Given as goal

abbrev pub invariant-loop-i : goal.invariant-loop-i
invariant-loop-i g l = (length l.sets ≡ 17) × ((q : ℕ) → q < l.i → get_or l.sets q 0 ≡ behind l.n l.width l.nodes q)
