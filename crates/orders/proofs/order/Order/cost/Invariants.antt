use Rattle.std.proofs.Common.{◌≡◌, take}
use Rattle.orders.specs.Costs.{trip_after}
use Rattle.orders.proofs.order.Order.cost.Given as goal

abbrev pub invariant-loop-j : goal.invariant-loop-j
invariant-loop-j g l =
    let w = l.self.doors.now in
    let r = l.self.round.now in
    record { van = l.van; cost = l.value } ≡ trip_after r (g.T.Tally.sense l.tally) (take l.j-index w)
