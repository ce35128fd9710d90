-- The sets below have their entries.
use Rattle.std.proofs.Common.{◌≡◌, length}
use Rattle.outlook.specs.LoadOrders.{AreKept}
use Rattle.outlook.proofs.load_orders.kept_below.Given as goal

abbrev pub invariant-loop-set : goal.invariant-loop-set
invariant-loop-set l = (length l.kept.items ≡ l.set) × AreKept l.round l.ahead l.kept.items
