-- What a report says of an order.
use Rattle.std.specs.Prelude.{◌≡◌, ◌↔◌, ℕ, List}
use Rattle.round.specs.declared.table.Round.{Round}
use Rattle.orders.specs.Times.{finish_minutes}
use Rattle.orders.specs.Verdicts.{VerdictMeans, verdict}
use Rattle.orders.specs.declared.verdict.Verdict.TheVariants as is
use Rattle.allowed.specs.Orders.{IsFullOrder, IsAllowedOrder, KeepsRules, driving_cost, late_cost}
use Rattle.allowed.specs.Senses.{side_of}
use Rattle.order_report.specs.declared.report.Report.{Report}

-- what the report says of the order w
pub record Reports (r : Round) (w : List ℕ) (p : Report) : Type 0 where
  pub full : IsFullOrder r w
  pub doors : p.doors.now ≡ w
  pub finishes : p.finishes.items ≡ finish_minutes r w
  -- the first fault, or none
  pub verdict : p.verdict ≡ verdict r (side_of r) w
  pub means : VerdictMeans r (KeepsRules r) w p.verdict
  pub allowed : (p.verdict ≡ is.Allowed) ↔ IsAllowedOrder r w
  pub driving : p.driving ≡ driving_cost r w
  pub late : p.late ≡ late_cost r w
