-- Allowed orders and what they cost, in words of the round alone.
use Rattle.std.specs.Prelude.{◌≡◌, ◌⊎◌, ◌↔◌, ℕ, ◌<◌, ◌≤◌, List, length}
use Rattle.doors.specs.Orders.{IsPartOrder}
use Rattle.round.specs.declared.table.Round.{Round}
use Rattle.rules.specs.Pairs.{IsOrdered}
use Rattle.rules.specs.Loads.{IsWithinCap}
use Rattle.rules.specs.Keepers.{IsSpaced}
use Rattle.rules.specs.Sides.{KeepsSides}
use Rattle.tallies.specs.Driving.{driving_sense}
use Rattle.tallies.specs.Late.{late_sense}
use Rattle.orders.specs.Allowed.{IsAllowed}
use Rattle.orders.specs.Costs.{cost}
use Rattle.orders.specs.Times.{KeepsHours}

-- w has each door of the round once
pub record IsFullOrder (r : Round) (w : List ℕ) : Type 0 where
  pub part : IsPartOrder r.n w
  pub whole : length w ≡ r.n

-- an order of the round's doors that is allowed
pub record IsAllowedOrder (r : Round) (w : List ℕ) : Type 0 where
  -- each door once
  pub full : IsFullOrder r w
  -- the first door of each pair stands ahead of the second
  pub ordered : IsOrdered r.ahead w
  -- the van holds 0 to cap key boxes after every door
  pub within : IsWithinCap r.load r.cap r.doors w
  -- the van never goes from a door straight to another of the same keeper
  pub spaced : IsSpaced r.keepers w
  -- no door is finished after it closes
  pub timely : KeepsHours r w

-- the side rules of the round: its pairs, its load, and its keepers
abbrev pub KeepsRules : Round → List ℕ → Type 0
KeepsRules r w = KeepsSides r r r w

-- allowed orders are those that the claim calls allowed, where the side rule is that of pairs, load and keepers
abbrev pub AllowedMeans : Type 0
AllowedMeans = (r : Round) (w : List ℕ) → IsAllowedOrder r w ↔ IsAllowed r (KeepsRules r) w

-- what an order costs: its late doors, and the minutes by which they are late
abbrev pub late_cost : Round → List ℕ → ℕ × ℕ
late_cost r w = cost r (late_sense r.n r.doors) w

-- the minutes driven, from the yard to the last door
abbrev pub driving_cost : Round → List ℕ → ℕ
driving_cost r w = cost r driving_sense w

-- the cost a is not above the cost b: it has fewer late doors, or as many and no more late minutes
abbrev pub IsNotAbove : ℕ × ℕ → ℕ × ℕ → Type 0
IsNotAbove a b = (a.0 < b.0) ⊎ ((a.0 ≡ b.0) × (a.1 ≤ b.1))
