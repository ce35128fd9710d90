-- The tables of a round, by number, with the yard at 0.
use Rattle.std.specs.Prelude.{ℕ, List, [], pos, slice_index, slice_index_or}
use Rattle.round.specs.declared.door.Door.{Door}

-- a door of which nothing is said
abbrev pub blank : Door
blank = record { opens = 0; closes = 0; due = 0; work = 0; change = pos 0 }

-- the one door of a fresh round
abbrev pub new_door : Door
new_door = record { opens = 0; closes = 0; due = 0; work = 1; change = pos 0 }

-- the record of door j, blank past the end
abbrev pub at : List Door → ℕ → Door
at doors j = slice_index_or doors j blank

-- the drive minutes from i to door j, 0 past the end
abbrev pub minutes_between : List (List ℕ) → ℕ → ℕ → ℕ
minutes_between drives i j = slice_index (slice_index_or drives i []) j
