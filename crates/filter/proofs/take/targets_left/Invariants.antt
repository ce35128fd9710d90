use Rattle.std.proofs.Common.{◌≡◌, length}
use Rattle.labels.proofs.Redirects.{by_door}
use Rattle.filter.specs.Kept.{kept_to}
use Rattle.filter.proofs.Doors.{Written}
use Rattle.filter.proofs.take.targets_left.Given as goal

abbrev pub invariant-loop-k : goal.invariant-loop-k
invariant-loop-k g l = record {
  done : Written (by_door (kept_to (g.F.Test.goes l.at.test.now l.at.round.now) l.at.layer l.at.left l.at.next.now l.u) l.u) l.doors l.to l.k-index;
  long : length l.to ≡ 16;
}
