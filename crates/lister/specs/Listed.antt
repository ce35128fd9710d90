-- What a listed order is, and which orders a list has.
use Rattle.std.specs.Prelude.{◌≡◌, ℕ, ◌⊎◌, List, [], ◌∷◌, ◌++◌, map, take, drop}
use Rattle.std.specs.List.{range_with_len}
use Rattle.round.specs.declared.table.Round.{Round}
use Rattle.tallies.specs.Tallies.{TallySense}
use Rattle.orders.specs.Allowed.{IsAllowed}
use Rattle.orders.specs.Costs.{cost}
use Rattle.lister.specs.declared.list.Listed.{Listed}

-- its first n numbers are an allowed order of the round, its cost is theirs, and the places after them have the later doors
pub record IsGood {V : Type 0} (r : Round) (Keeps : List ℕ → Type 0) (T : TallySense V) (x : Listed V) : Type 0 where
  pub allowed : IsAllowed r Keeps (take r.n x.doors)
  pub cost : x.cost ≡ cost r T (take r.n x.doors)
  pub later : drop r.n x.doors ≡ drop r.n (range_with_len 1 16)

-- the orders of n doors that are listed
abbrev pub listed_orders : {V : Type 0} → ℕ → List (Listed V) → List (List ℕ)
listed_orders n xs = map (λ x. take n x.doors) xs

-- the orders after one more was looked at: it is added if it is allowed
abbrev pub LooksAt : Round → (List ℕ → Type 0) → List ℕ → List (List ℕ) → List (List ℕ) → Type 0
LooksAt r Keeps w old new =
    (IsAllowed r Keeps w × (new ≡ old ++ w ∷ [])) ⊎ ((¬ IsAllowed r Keeps w) × (new ≡ old))
