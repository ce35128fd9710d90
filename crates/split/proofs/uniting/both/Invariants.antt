use Rattle.std.proofs.Common.{◌≡◌}
use Rattle.split.proofs.Joins.{picked}
use Rattle.labels.proofs.Redirects.{written}
use Rattle.split.proofs.uniting.both.Given as goal

abbrev pub invariant-loop-k : goal.invariant-loop-k
invariant-loop-k g l = l.to ≡ written (picked l.x l.y) l.k
