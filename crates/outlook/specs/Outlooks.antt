-- What an outlook says of a round.
use Rattle.std.specs.Prelude.{◌≡◌, ◌↔◌, ℕ, List, IsTrue, slice_index}
use Rattle.doors.specs.Orders.{IsDoor}
use Rattle.doors.specs.Sets.{Has}
use Rattle.round.specs.declared.table.Round.{Round}
use Rattle.allowed.specs.Orders.{IsAllowedOrder}
use Rattle.outlook.specs.declared.outlook.Outlook.{Outlook}
use Rattle.outlook.specs.Earliest.{IsEarliest}
use Rattle.outlook.specs.Chains.{IsChained}
use Rattle.outlook.specs.LoadMeanings.{LoadMeans}
use Rattle.outlook.specs.Reasons.{rules_out_all}

-- what the outlook says of the round r
pub record Tells (r : Round) (o : Outlook) : Type 0 where
  pub round : o.round.now ≡ r
  -- the least minute at which each door can be done, whatever comes first
  pub earliest : (j : ℕ) → IsDoor r.n j → IsEarliest r j (slice_index o.earliest j)
  -- where there is no door stands 0
  pub others : (j : ℕ) → ¬ IsDoor r.n j → slice_index o.earliest j ≡ 0
  -- the doors that have to come ahead of each door, by one pair or by several
  pub ahead : (i j : ℕ) → Has (slice_index o.ahead j) i ↔ IsChained r.ahead i j
  -- whether the load can be kept
  pub load : LoadMeans r o.load
  -- where there is a reason, no order is allowed
  pub reasons : IsTrue (rules_out_all o) → (w : List ℕ) → ¬ IsAllowedOrder r w
