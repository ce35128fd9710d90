use Rattle.seek.proofs.Paths.{Reached}
use Rattle.seek.proofs.row.first_row.Given as goal

abbrev pub invariant-loop-k : goal.invariant-loop-k
invariant-loop-k g l = Reached l.i l.j l.n l.width l.nodes l.row l.k
