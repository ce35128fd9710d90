-- Late doors: how many doors are late, and the minutes by which they are.
use Rattle.std.specs.Prelude.{Bool, if◌then◌else◌, ◌&&◌, ◌||◌, List, ℕ, ◌+◌, ◌-◌, min, nat_le, nat_lt, ◌==◌}
use Rattle.doors.specs.Orders.{is_door}
use Rattle.round.specs.declared.door.Door.{Door}
use Rattle.round.specs.Tables.{at}
use Rattle.tallies.specs.Tallies.{TallySense}

-- by how many minutes door j is late, if its work ends at finish; a number that is no door of the round is never late
abbrev pub late_by : ℕ → List Door → ℕ → ℕ → ℕ
late_by n doors j finish = if is_door n j then finish - (at doors j).due else 0

-- one more door, late by m minutes, or on time where m is 0; neither number goes above 1,000,000
abbrev pub late_count : ℕ × ℕ → ℕ → ℕ × ℕ
late_count v m = if nat_lt 0 m then (min (v.0 + 1) 1000000, min (v.1 + m) 1000000) else v

-- a is not above b: by the first number, then by the second
abbrev pub is_not_above : ℕ × ℕ → ℕ × ℕ → Bool
is_not_above a b = nat_lt a.0 b.0 || (a.0 == b.0 && nat_le a.1 b.1)

-- what the tally answers: a value is late doors, and late minutes
abbrev pub late_sense : ℕ → List Door → TallySense (ℕ × ℕ)
late_sense n doors = record {
  start = (0, 0);
  step = λ v j leg finish. late_count v (late_by n doors j finish);
  not_above = is_not_above;
  lesser = λ a b. if is_not_above a b then a else b;
}
