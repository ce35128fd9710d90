-- What lies onward from each place of layer k is what the paths from there say, whatever two doors one looks at.
use Rattle.std.proofs.Common.{ℕ}
use Rattle.seek.specs.Rows.{views}
use Rattle.seek.proofs.Paths.{Reached}
use Rattle.seek.proofs.walk.top_row.Given as goal

abbrev pub invariant-loop-k : goal.invariant-loop-k
invariant-loop-k g l = (i j : ℕ) → Reached i j l.n l.width l.nodes (views i j l.row) l.k
