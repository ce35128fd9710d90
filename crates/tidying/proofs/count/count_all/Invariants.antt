use Rattle.std.proofs.Common.{◌≡◌, ◌*◌, ◌≤◌, take, sum_by}
use Rattle.tidying.specs.Counted.{arcs_of}
use Rattle.tidying.proofs.count.count_all.Given as goal

abbrev pub invariant-loop-x : goal.invariant-loop-x
invariant-loop-x g l = record {
  counted : l.n ≡ sum_by arcs_of (take l.x-index l.nodes);
  few : l.n ≤ 16 * l.x-index;
}
