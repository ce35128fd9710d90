use Rattle.std.proofs.Common.{take}
use Rattle.doors.specs.Orders.{IsPartOrder}
use Rattle.order_report.proofs.named.repeated.Given as goal

abbrev pub invariant-loop-i : goal.invariant-loop-i
invariant-loop-i l = IsPartOrder l.round.n (take l.i l.doors)
