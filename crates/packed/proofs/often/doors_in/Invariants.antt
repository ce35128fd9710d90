-- The doors of the sets before this one are counted.
use Rattle.std.proofs.Common.{◌≡◌, ◌*◌, ◌≤◌, count_ones, sum_by, take}
use Rattle.packed.proofs.often.doors_in.Given as goal

abbrev pub invariant-loop-set : goal.invariant-loop-set
invariant-loop-set l = (l.count ≡ sum_by count_ones (take l.set-index l.sets)) × (l.count ≤ 32 * l.set-index)
