use Rattle.std.proofs.Common.{◌≡◌, ◌≤◌, get_or, map, sum_by}
use Rattle.std.specs.List.{range_with_len}
use Rattle.tidying.proofs.Targets.{one_if}
use Rattle.tidying.proofs.count.count_of.Given as goal

abbrev pub invariant-loop-k : goal.invariant-loop-k
invariant-loop-k g l = record { counted : l.many ≡ sum_by one_if (map (λ i. get_or l.x.arcs.to i 0) (range_with_len 0 l.k)); few : l.many ≤ l.k }
