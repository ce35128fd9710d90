-- The rule of the load, by the start load, the cap and the doors' changes.
use Rattle.std.specs.Prelude.{ℕ, Bool, false, if◌then◌else◌, ◌&&◌, ◌||◌, List, [], ◌∷◌, ◌++◌, ℤ, pos, negsuc, ◌+ℤ◌, ◌≤ℤ◌, fold, int_le, int_lt}
use Rattle.std.specs.Int.{int_max, int_min}
use Rattle.doors.specs.Orders.{AtEach, is_door}
use Rattle.round.specs.declared.door.Door.{Door}
use Rattle.round.specs.Tables.{at}
use Rattle.rules.specs.declared.load.Interval.{Interval}
use Rattle.rules.specs.Rules.{RuleSense}

-- the load after the doors of w
abbrev pub load_of : ℕ → List Door → List ℕ → ℤ
load_of load doors w = fold (λ l j. l +ℤ (at doors j).change) (pos load) w

-- the load is 0 to cap after every door of w
abbrev pub IsWithinCap : ℕ → ℕ → List Door → List ℕ → Type 0
IsWithinCap load cap doors w =
    AtEach (λ u j. (pos 0 ≤ℤ load_of load doors (u ++ j ∷ [])) × (load_of load doors (u ++ j ∷ []) ≤ℤ pos cap)) w

-- the loads from a to b
abbrev pub interval : ℤ → ℤ → Interval
interval a b = record { low = a; high = b }

-- the load after w lies in the interval
abbrev pub LiesBetween : ℕ → List Door → Interval → List ℕ → Type 0
LiesBetween load doors s w = (s.low ≤ℤ load_of load doors w) × (load_of load doors w ≤ℤ s.high)

-- z, held within ±9,999
abbrev pub clamped_load : ℤ → ℤ
clamped_load z = int_max (negsuc 9998) (int_min z (pos 9999))

-- both ends moved by the change of door j; a number that is no door of the round moves none
abbrev pub moved_interval : ℕ → List Door → Interval → ℕ → Interval
moved_interval n doors s j =
    if is_door n j then interval (clamped_load (s.low +ℤ (at doors j).change)) (clamped_load (s.high +ℤ (at doors j).change)) else s

-- the least interval that has both
abbrev pub spanning_interval : Interval → Interval → Interval
spanning_interval s t = interval (int_min s.low t.low) (int_max s.high t.high)

-- at door j the lowest load would pass the cap, or the highest fall below 0
abbrev pub may_overflow : ℕ → ℕ → List Door → Interval → ℕ → Bool
may_overflow n cap doors s j =
    if is_door n j
    then int_lt (pos cap) (s.low +ℤ (at doors j).change) || int_lt (s.high +ℤ (at doors j).change) (pos 0)
    else false

-- a and b are one number
abbrev pub same_int : ℤ → ℤ → Bool
same_int a b = int_le a b && int_le b a

-- what the rule answers: from the start load on, each door moves the interval
abbrev pub load_sense : ℕ → ℕ → ℕ → List Door → RuleSense Interval
load_sense n load cap doors = record {
  start = interval (pos load) (pos load);
  step = moved_interval n doors;
  cover = spanning_interval;
  bars = may_overflow n cap doors;
  same = λ s t. same_int s.low t.low && same_int s.high t.high;
}
