-- Part orders: lists of doors, none twice.
use Rattle.std.specs.Prelude.{◌≡◌, ℕ, ◌≤◌, Bool, true, false, not, ◌&&◌, ◌||◌, ◌⊎◌, List, [], ◌∷◌, ◌++◌, ◌==◌, nat_le}

-- j stands in w
abbrev pub StandsIn : ℕ → List ℕ → Type 0
StandsIn j [] = ⊥
StandsIn j (x ∷ w) = (j ≡ x) ⊎ StandsIn j w

-- j is one of the doors 1 to n
pub record IsDoor (n j : ℕ) : Type 0 where
  pub low : 1 ≤ j
  pub high : j ≤ n

-- whether j is one of them
abbrev pub is_door : ℕ → ℕ → Bool
is_door n j = nat_le 1 j && nat_le j n

-- w is a list of the doors 1 to n, none twice
abbrev pub IsPartOrder : ℕ → List ℕ → Type 0
IsPartOrder n [] = Unit {0}
IsPartOrder n (j ∷ w) = IsDoor n j × (¬ StandsIn j w) × IsPartOrder n w

-- whether j stands in w
abbrev pub is_in : ℕ → List ℕ → Bool
is_in j [] = false
is_in j (x ∷ w) = j == x || is_in j w

-- whether w is a part order
abbrev pub is_part_order : ℕ → List ℕ → Bool
is_part_order n [] = true
is_part_order n (j ∷ w) = is_door n j && (not (is_in j w) && is_part_order n w)

-- w is a part order of n doors, and j a door that it lacks
pub record CanFollow (n : ℕ) (w : List ℕ) (j : ℕ) : Type 0 where
  pub part : IsPartOrder n w
  pub door : IsDoor n j
  pub new : ¬ StandsIn j w

-- P holds at each door j of w, with the doors u ahead of it
abbrev pub AtEach : (List ℕ → ℕ → Type 0) → List ℕ → Type 0
AtEach P w = (u : List ℕ) (j : ℕ) (v : List ℕ) → w ≡ u ++ j ∷ v → P u j
