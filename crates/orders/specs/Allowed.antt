-- Allowed orders.
use Rattle.std.specs.Prelude.{◌≡◌, ℕ, List, length}
use Rattle.doors.specs.Orders.{IsPartOrder}
use Rattle.round.specs.declared.table.Round.{Round}
use Rattle.orders.specs.Times.{KeepsHours}

-- each door once, the side rule kept, and every door finished by the time it closes
pub record IsAllowed (r : Round) (Keeps : List ℕ → Type 0) (w : List ℕ) : Type 0 where
  pub part : IsPartOrder r.n w
  pub whole : length w ≡ r.n
  pub keeps : Keeps w
  pub timely : KeepsHours r w
