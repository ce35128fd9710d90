-- How early the work at a door can end, whatever comes first.
use Rattle.std.specs.Prelude.{◌≡◌, ◌⊎◌, ℕ, ◌<◌, ◌≤◌, List, [], ◌∷◌, ◌++◌, slice_index}
use Rattle.doors.specs.Orders.{IsDoor, CanFollow}
use Rattle.round.specs.declared.table.Round.{Round}
use Rattle.round.specs.Clock.{door, drive, finish}
use Rattle.orders.specs.Times.{finish_of, KeepsHours}
use Rattle.allowed.specs.Orders.{IsAllowedOrder}

-- the van can come to door j from the doors of u: none of them is j, none comes twice, and none finishes after it closes
pub record ComesFrom (r : Round) (u : List ℕ) (j : ℕ) : Type 0 where
  pub follows : CanFollow r.n u j
  pub timely : KeepsHours r u

-- m is the least minute at which the work at door j can end, whatever comes first
pub record IsEarliest (r : Round) (j m : ℕ) : Type 0 where
  -- some doors lead to it
  pub reached : (u : List ℕ) × ComesFrom r u j × (finish_of r (u ++ j ∷ []) ≡ m)
  -- no doors lead to an earlier one
  pub least : (u : List ℕ) → ComesFrom r u j → m ≤ finish_of r (u ++ j ∷ [])

-- where a door is too late even at its earliest, no order is allowed
abbrev pub NoneIsInTime : Type 0
NoneIsInTime =
    (r : Round) (j m : ℕ) → IsDoor r.n j → IsEarliest r j m → (door r j).closes < m
    → (w : List ℕ) → ¬ IsAllowedOrder r w

-- by this table, the work at door i does not end after the door closes
pub record IsInTime (r : Round) (ends : List ℕ) (i : ℕ) : Type 0 where
  pub is_door : IsDoor r.n i
  pub in_time : slice_index ends i ≤ (door r i).closes

-- the minute at which the work at door j ends, for a van that goes on to it from door i
abbrev pub finish_from : Round → List ℕ → ℕ → ℕ → ℕ
finish_from r ends i j = finish r (slice_index ends i) (drive r i j) j

-- m is the least of what the table has for door j, and of going on to it from a door that is in time
pub record IsLeastInto (r : Round) (ends : List ℕ) (j m : ℕ) : Type 0 where
  pub not_above : m ≤ slice_index ends j
  pub least : (i : ℕ) → IsInTime r ends i → m ≤ finish_from r ends i j
  pub reached : (m ≡ slice_index ends j) ⊎ ((i : ℕ) × IsInTime r ends i × (m ≡ finish_from r ends i j))
