-- Sets of doors as numbers: bit j of m says whether door j is in the set m, and bit 0 stands for the yard.
use Rattle.std.specs.Prelude.{◌≡◌, ℕ, ◌^◌, Bool, List, [], ◌∷◌, ◌==◌, bit_or}
use Rattle.std.specs.Int.{bit_at}

-- door j is in the set m
abbrev pub Has : ℕ → ℕ → Type 0
Has m j = bit_at m j ≡ 1

-- the same, as a test
abbrev pub has : ℕ → ℕ → Bool
has m j = bit_at m j == 1

-- the set of the doors of w
abbrev pub set_of : List ℕ → ℕ
set_of [] = 0
set_of (j ∷ w) = bit_or (set_of w) (2 ^ j)
