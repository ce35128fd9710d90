use Rattle.std.proofs.Common.{◌≡◌, ◌+◌, map, take, vec_items}
use Rattle.std.specs.List.{range_with_len}
use Rattle.orders.specs.Times.{van_after, finish_of}
use Rattle.orders.proofs.order.Order.finishes.Given as goal

abbrev pub invariant-loop-j : goal.invariant-loop-j
invariant-loop-j l =
    let w = l.self.doors.now in
    let r = l.self.round.now in
    (l.van ≡ van_after r (take l.j-index w)) × (vec_items l.minutes ≡ map (λ k. finish_of r (take (k + 1) w)) (range_with_len 0 l.j-index))
