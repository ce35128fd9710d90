-- The clock of a round. Proofs above it use the laws below alone; what `finish` says is for the reader, and for examples that compute.
use Rattle.std.specs.Prelude.{◌≡◌, ℕ, suc, ◌+◌, ◌*◌, ◌%◌, ◌≤◌, max}
use Rattle.std.specs.Int.{next_multiple_of}
use Rattle.round.specs.declared.door.Door.{Door}
use Rattle.round.specs.declared.table.Round.{Round}
use Rattle.round.specs.Tables.{at, minutes_between}

-- the record of door j, blank where there is none
abbrev pub door : Round → ℕ → Door
door r j = at r.doors j

-- the drive minutes from i to door j, 0 where there are none
abbrev pub drive : Round → ℕ → ℕ → ℕ
drive r i j = minutes_between r.drives i j

-- s is the least whole multiple of g that is not below m
pub record IsLeastMultiple (g m s : ℕ) : Type 0 where
  pub multiple : s % g ≡ 0
  pub not_below : m ≤ s
  pub least : (k : ℕ) → m ≤ k * g → s ≤ k * g

-- the minute at which the work at door j starts, for a van that left its last place at minute f and drove g minutes:
-- the later of the door's opening and the arrival, lifted to the grid (IsLeastMultiple)
abbrev pub start : Round → ℕ → ℕ → ℕ → ℕ
start r f g j = next_multiple_of (max (door r j).opens (f + g)) r.grid

-- the minute at which that work ends
unfoldable pub finish : Round → ℕ → ℕ → ℕ → ℕ
finish r f g j = start r f g j + (door r j).work

-- no finish passes this after k steps
abbrev pub latest_finish : ℕ → ℕ
latest_finish k = 9999 + k * 2057

-- What the clock promises.
pub record ClockLaws (r : Round) : Type 0 where
  -- whoever leaves later or drives longer is not done sooner
  pub later : (f f' g g' j : ℕ) → f ≤ f' → g ≤ g' → finish r f g j ≤ finish r f' g' j
  -- driving and work take at least their minutes, from the departure on
  pub after : (f g j : ℕ) → f + g + (door r j).work ≤ finish r f g j
  -- one step more, to any door, new or not, with a drive of the table's length
  pub bound : (k f g j : ℕ) → f ≤ latest_finish k → g ≤ 999 → finish r f g j ≤ latest_finish (suc k)
