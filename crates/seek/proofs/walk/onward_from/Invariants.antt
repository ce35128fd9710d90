-- The arcs by the doors so far are worked in, whatever two doors one looks at.
use Rattle.std.proofs.Common.{◌≡◌, ℕ}
use Rattle.seek.specs.Rows.{by_first, view, views}
use Rattle.seek.proofs.walk.onward_from.Given as goal

abbrev pub invariant-loop-k : goal.invariant-loop-k
invariant-loop-k g l = (i j : ℕ) → view i j l.got ≡ by_first i j (views i j l.below) l.u l.k
