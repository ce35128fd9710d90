-- Reasons for which no order is allowed.
use Rattle.std.specs.Prelude.{◌≡◌, ℕ, ◌<◌, Bool, true, false, not, ◌||◌, ◌⊎◌, nat_lt, slice_index}
use Rattle.std.specs.List.{list_any, range_with_len}
use Rattle.doors.specs.Orders.{IsDoor}
use Rattle.doors.specs.Sets.{Has, has}
use Rattle.round.specs.Clock.{door}
use Rattle.outlook.specs.declared.outlook.Outlook.{Outlook}
use Rattle.outlook.specs.declared.outlook.LoadOutlook.{LoadOutlook}
use Rattle.outlook.specs.declared.outlook.LoadOutlook.TheVariants.{Never, NotWithPairs, Kept}

-- whether some order keeps load and pairs
abbrev pub is_kept : LoadOutlook → Bool
is_kept Never = false
is_kept NotWithPairs = false
is_kept (Kept v) = true

-- door j is too late even at its earliest
abbrev pub IsLate : Outlook → ℕ → Type 0
IsLate o j = (door o.round.now j).closes < slice_index o.earliest j

-- door j has to come ahead of itself
abbrev pub IsInCircle : Outlook → ℕ → Type 0
IsInCircle o j = Has (slice_index o.ahead j) j

-- some door is too late even at its earliest or has to come ahead of itself, or no order keeps load and pairs
abbrev pub RulesOutAll : Outlook → Type 0
RulesOutAll o =
    ((j : ℕ) × IsDoor o.round.now.n j × (IsLate o j ⊎ IsInCircle o j)) ⊎ (is_kept o.load ≡ false)

-- whether door j is too late even at its earliest
abbrev pub is_late : Outlook → ℕ → Bool
is_late o j = nat_lt (door o.round.now j).closes (slice_index o.earliest j)

-- whether it is so, or has to come ahead of itself
abbrev pub has_no_place : Outlook → ℕ → Bool
has_no_place o j = is_late o j || has (slice_index o.ahead j) j

-- whether there is such a reason
abbrev pub rules_out_all : Outlook → Bool
rules_out_all o = list_any (has_no_place o) (range_with_len 1 o.round.now.n) || not (is_kept o.load)
