-- The set has the doors before this one that come behind.
use Rattle.std.proofs.Common.{◌≡◌, ◌-◌}
use Rattle.seek.specs.Musts.{set_where}
use Rattle.seek.specs.Rows.{is_behind}
use Rattle.seek.proofs.must.behind.Given as goal

abbrev pub invariant-loop-j : goal.invariant-loop-j
invariant-loop-j l = l.set ≡ set_where (is_behind l.n l.after l.i) (l.j - 1)
