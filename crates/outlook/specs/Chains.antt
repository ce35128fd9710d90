-- What follows from the pairs of a round.
use Rattle.std.specs.Prelude.{◌≡◌, ℕ, List, [], ◌∷◌}
use Rattle.doors.specs.Orders.{IsDoor, StandsIn, AtEach}
use Rattle.round.specs.declared.table.Round.{Round}
use Rattle.rules.specs.Pairs.{Pair, IsOrdered}
use Rattle.allowed.specs.Orders.{IsFullOrder}

-- pairs lead from door i by the doors of u, one after the other, to door j
abbrev pub Leads : List ℕ → ℕ → List ℕ → ℕ → Type 0
Leads ahead i [] j = Pair ahead i j
Leads ahead i (k ∷ u) j = Pair ahead i k × Leads ahead k u j

-- door i has to come ahead of door j: by a pair, or by several, one after the other
abbrev pub IsChained : List ℕ → ℕ → ℕ → Type 0
IsChained ahead i j = (u : List ℕ) × Leads ahead i u j

-- wherever the pairs are kept, the first door of a chain stands ahead of the last
abbrev pub ChainsHold : Type 0
ChainsHold =
    (ahead : List ℕ) (i j : ℕ) → IsChained ahead i j
    → (w : List ℕ) → IsOrdered ahead w → AtEach (λ u k. k ≡ j → StandsIn i u) w

-- where a door has to come ahead of itself, no order of all doors keeps the pairs
abbrev pub CirclesBreak : Type 0
CirclesBreak =
    (r : Round) (j : ℕ) → IsDoor r.n j → IsChained r.ahead j j
    → (w : List ℕ) → IsFullOrder r w → ¬ IsOrdered r.ahead w
