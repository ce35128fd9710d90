-- When the doors of a list finish.
use Rattle.std.specs.Prelude.{ℕ, ◌+◌, ◌≤◌, List, [], ◌∷◌, ◌++◌, map, length, take, fold}
use Rattle.std.specs.List.{range_with_len}
use Rattle.doors.specs.Orders.{AtEach}
use Rattle.round.specs.declared.table.Round.{Round}
use Rattle.round.specs.Clock.{door, drive, finish}
use Rattle.orders.specs.declared.van.Van.{Van}

-- the van at the yard, at minute 0
abbrev pub yard : Van
yard = record { last = 0; finish = 0 }

-- the van after the work at door j
abbrev pub next_van : Round → Van → ℕ → Van
next_van r a j = record { last = j; finish = finish r a.finish (drive r a.last j) j }

-- the van after the doors of w
abbrev pub van_after : Round → List ℕ → Van
van_after r w = fold (next_van r) yard w

-- the minute at which the last door of w finishes
abbrev pub finish_of : Round → List ℕ → ℕ
finish_of r w = (van_after r w).finish

-- the minutes at which the doors of w finish
abbrev pub finish_minutes : Round → List ℕ → List ℕ
finish_minutes r w = map (λ k. finish_of r (take (k + 1) w)) (range_with_len 0 (length w))

-- no door of w finishes after it closes
abbrev pub KeepsHours : Round → List ℕ → Type 0
KeepsHours r w = AtEach (λ u j. finish_of r (u ++ j ∷ []) ≤ (door r j).closes) w
