use Rattle.std.proofs.Common.{◌≡◌}
use Rattle.seek.specs.Rows.{by_first}
use Rattle.seek.proofs.row.by_first.Given as goal

abbrev pub invariant-loop-k : goal.invariant-loop-k
invariant-loop-k g l = l.got ≡ by_first l.i l.j l.below l.u l.k
