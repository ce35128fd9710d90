use Rattle.std.proofs.Common.{ℕ, ◌≤◌, ◌<◌}
use Rattle.doors.specs.Orders.{StandsIn}
use Rattle.order_report.proofs.named.missing.Given as goal

abbrev pub invariant-loop-door : goal.invariant-loop-door
invariant-loop-door l = (k : ℕ) → k < l.door-counter → 1 ≤ k → StandsIn k l.doors
