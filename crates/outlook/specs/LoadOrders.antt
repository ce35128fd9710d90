-- Orders of all doors that keep the load of a round, and such pairs as are asked.
use Rattle.std.specs.Prelude.{◌≡◌, ◌↔◌, ℕ, false, List, [], ◌∷◌, ◌++◌, Bool, EachIndex, IsTrue, slice_index_or, ℤ, pos, ◌≤ℤ◌}
use Rattle.doors.specs.Orders.{IsPartOrder}
use Rattle.doors.specs.Sets.{set_of}
use Rattle.round.specs.declared.table.Round.{Round}
use Rattle.rules.specs.Pairs.{IsOrdered}
use Rattle.rules.specs.Loads.{IsWithinCap}
use Rattle.allowed.specs.Orders.{IsFullOrder}

-- w has each door of the round once, keeps these pairs, and the van holds 0 to cap key boxes after every door
pub record KeepsLoad (r : Round) (ahead : List ℕ) (w : List ℕ) : Type 0 where
  pub full : IsFullOrder r w
  pub ordered : IsOrdered ahead w
  pub within : IsWithinCap r.load r.cap r.doors w

-- the van can hold z key boxes, 0 to cap
abbrev pub FitsVan : Round → ℤ → Type 0
FitsVan r z = (pos 0 ≤ℤ z) × (z ≤ℤ pos r.cap)

-- w has each door of the set m once and no other, and keeps both
pub record KeepsLoadWithin (r : Round) (ahead : List ℕ) (m : ℕ) (w : List ℕ) : Type 0 where
  pub part : IsPartOrder r.n w
  pub just : set_of w ≡ m
  pub ordered : IsOrdered ahead w
  pub within : IsWithinCap r.load r.cap r.doors w

-- door j comes last in one of these orders
abbrev pub CanBeLast : Round → List ℕ → ℕ → ℕ → Type 0
CanBeLast r ahead m j = (u : List ℕ) × KeepsLoadWithin r ahead m (u ++ j ∷ [])

-- for each set in the table, by number, its entry says whether there is such an order
abbrev pub AreKept : Round → List ℕ → List Bool → Type 0
AreKept r ahead kept =
    EachIndex kept (λ m. IsTrue (slice_index_or kept m false) ↔ ((w : List ℕ) × KeepsLoadWithin r ahead m w))
