use Rattle.std.proofs.Common.{arith}
use Rattle.std.proofs.lemmas.Grind.{common_steps}
use Rattle.tidying.proofs.count.count_arcs.Goals as goal

pub returns-then-not-has_room : goal.returns-then-not-has_room
returns-then-not-has_room g c = grind arith

pub overflow_mul-round : goal.overflow_mul-round
overflow_mul-round g c = grind (arith, common_steps)

pub slice_bounds-count_all-end : goal.slice_bounds-count_all-end
slice_bounds-count_all-end g c = grind (arith, common_steps)

pub count_all-requires : goal.count_all-requires
count_all-requires g c = grind (arith, common_steps)
