-- None of the doors below j can come last.
use Rattle.std.proofs.Common.{ℕ, ◌<◌}
use Rattle.doors.specs.Orders.{IsDoor}
use Rattle.outlook.specs.LoadOrders.{CanBeLast}
use Rattle.outlook.proofs.load_orders.last_door.Given as goal

abbrev pub invariant-loop-j : goal.invariant-loop-j
invariant-loop-j l = (i : ℕ) → i < l.j → IsDoor l.round.n i → ¬ CanBeLast l.round l.ahead l.set i
