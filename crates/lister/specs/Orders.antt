-- Lists of numbers in dictionary order.
use Rattle.std.specs.Prelude.{◌≡◌, ℕ, ◌<◌, ◌⊎◌, List, [], ◌∷◌}
use Rattle.std.specs.List.Sorted.{IsPermutation}

-- v stands ahead of w in a dictionary: at the first place where they differ its number is the lesser, or it ends there
abbrev pub ComesBefore : List ℕ → List ℕ → Type 0
ComesBefore v [] = ⊥
ComesBefore [] (y ∷ w) = Unit {0}
ComesBefore (x ∷ v) (y ∷ w) = (x < y) ⊎ ((x ≡ y) × ComesBefore v w)

-- of all lists of the numbers of v, w is the next one after v
pub record IsNext (v w : List ℕ) : Type 0 where
  pub after : ComesBefore v w
  pub none_between : (u : List ℕ) → IsPermutation v u → ComesBefore v u → ¬ ComesBefore u w

-- of all lists of the numbers of v, none comes after v
pub record IsLast (v : List ℕ) : Type 0 where
  pub none_after : (u : List ℕ) → IsPermutation v u → ¬ ComesBefore v u
