use Rattle.std.proofs.Common.{◌≡◌, take, drop}
use Rattle.orders.specs.Times.{yard, van_after}
use Rattle.orders.specs.Verdicts.{verdict_from}
use Rattle.orders.proofs.order.Order.first_fault.Given as goal

abbrev pub invariant-loop-j : goal.invariant-loop-j
invariant-loop-j g l =
    let w = l.self.doors.now in
    let r = l.self.round.now in
    let R = g.R.Rule.sense l.rule in
    (l.van ≡ van_after r (take l.j-index w))
    × (verdict_from r R l.van l.state (drop l.j-index w) ≡ verdict_from r R yard R.start w)
