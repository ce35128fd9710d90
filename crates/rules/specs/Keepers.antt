-- The rule of the keepers, by a table that has for each door the number of its keeper, and 0 where it has none.
use Rattle.std.specs.Prelude.{◌≡◌, ◌≢◌, ℕ, ◌^◌, Bool, if◌then◌else◌, not, ◌&&◌, ◌||◌, List, ◌∷◌, ◌++◌, fold, ◌==◌, bit_or, nat_eq, slice_index}
use Rattle.std.specs.List.{list_all, list_any, range_with_len}
use Rattle.doors.specs.Orders.{is_door}
use Rattle.doors.specs.Sets.{has}
use Rattle.rules.specs.Rules.{RuleSense}

-- doors i and j have one keeper; 0 in the table is none, and none is never shared
abbrev pub ShareKeeper : List ℕ → ℕ → ℕ → Type 0
ShareKeeper keepers i j = (slice_index keepers j ≢ 0) × (slice_index keepers i ≡ slice_index keepers j)

-- w never goes from a door straight to another of the same keeper
abbrev pub IsSpaced : List ℕ → List ℕ → Type 0
IsSpaced keepers w = (u : List ℕ) (i j : ℕ) (v : List ℕ) → w ≡ u ++ i ∷ j ∷ v → ¬ ShareKeeper keepers i j

-- the last door of w, and 0 where it has none yet
abbrev pub last_door : List ℕ → ℕ
last_door w = fold (λ _ j. j) 0 w

-- whether i is a member of the set s other than j
abbrev pub is_other : ℕ → ℕ → ℕ → Bool
is_other s j i = not (i == j) && has s i

-- whether s, a set of 32 places, has a member other than j
unfoldable pub any_other : ℕ → ℕ → Bool
any_other s j = list_any (is_other s j) (range_with_len 0 32)

-- whether doors i and j have one keeper
abbrev pub share_keeper : List ℕ → ℕ → ℕ → Bool
share_keeper keepers i j = not (slice_index keepers j == 0) && slice_index keepers i == slice_index keepers j

-- whether each member of s other than j shares j's keeper
unfoldable pub all_share : List ℕ → ℕ → ℕ → Bool
all_share keepers s j = list_all (λ i. not (is_other s j i) || share_keeper keepers i j) (range_with_len 0 32)

-- whether doors i and j are two and have one keeper
abbrev pub share_as_others : List ℕ → ℕ → ℕ → Bool
share_as_others keepers i j = not (i == j) && share_keeper keepers i j

-- the set of j alone; s as it is where j is no door of the round
abbrev pub only_door : ℕ → ℕ → ℕ → ℕ
only_door n s j = if is_door n j then 2 ^ j else s

-- j is a door of the round, and s has members beside it, all of them doors of j's keeper
abbrev pub repeats_keeper : ℕ → List ℕ → ℕ → ℕ → Bool
repeats_keeper n keepers s j = is_door n j && (any_other s j && all_share keepers s j)

-- what the rule answers: start is the set of 0 alone, 2 ^ 0; a step leaves the door alone in the set, and cover is the union
abbrev pub keepers_sense : ℕ → List ℕ → RuleSense ℕ
keepers_sense n keepers = record {
  start = 1;
  step = only_door n;
  cover = bit_or;
  bars = repeats_keeper n keepers;
  same = nat_eq;
}
