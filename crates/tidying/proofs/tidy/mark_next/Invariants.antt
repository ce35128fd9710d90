use Rattle.std.proofs.Common.{◌≡◌, ◌+◌, drop}
use Rattle.tidying.specs.Tidied.{marked, sent, reached_next}
use Rattle.tidying.proofs.tidy.mark_next.Given as goal

abbrev pub invariant-loop-a : goal.invariant-loop-a
invariant-loop-a g l = marked l.marks (sent (drop (l.a + 1) l.from) (drop l.a l.us)) ≡ reached_next l.from l.us
