-- The rule of pairs, by a table that has for each door the set of the doors that have to come ahead of it.
use Rattle.std.specs.Prelude.{ℕ, ◌^◌, Bool, false, if◌then◌else◌, not, List, ◌==◌, bit_and, bit_or, nat_eq, slice_index}
use Rattle.doors.specs.Orders.{StandsIn, AtEach, is_door}
use Rattle.doors.specs.Sets.{Has}
use Rattle.rules.specs.Rules.{RuleSense}

-- (i, j) is one of the pairs
abbrev pub Pair : List ℕ → ℕ → ℕ → Type 0
Pair ahead i j = Has (slice_index ahead j) i

-- for each pair whose j is in w, i stands ahead of j
abbrev pub IsOrdered : List ℕ → List ℕ → Type 0
IsOrdered ahead w = AtEach (λ u j. (i : ℕ) → Pair ahead i j → StandsIn i u) w

-- the set s with door j, if j is a door of the round
abbrev pub set_with : ℕ → ℕ → ℕ → ℕ
set_with n s j = if is_door n j then bit_or s (2 ^ j) else s

-- j is a door of the round, and some pair (i, j) has i outside s
abbrev pub lacks_first : ℕ → List ℕ → ℕ → ℕ → Bool
lacks_first n ahead s j =
    if is_door n j then not (bit_and (slice_index ahead j) s == slice_index ahead j) else false

-- what the rule answers: from the empty set on, each door is added
abbrev pub pairs_sense : ℕ → List ℕ → RuleSense ℕ
pairs_sense n ahead = record { start = 0; step = set_with n; cover = bit_or; bars = lacks_first n ahead; same = nat_eq }
