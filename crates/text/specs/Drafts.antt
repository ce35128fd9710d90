-- What each line adds to the round that is read. The tables go by number, with the yard at 0.
use Rattle.std.specs.Prelude.{ℕ, ◌^◌, List, replicate, bit_or, slice_index, slice_set}
use Rattle.round.specs.Tables.{blank}
use Rattle.round.specs.declared.door.Door.{Door}
use Rattle.std.specs.Option.{unwrap_or}
use Rattle.text.specs.declared.draft.Draft.{Draft}
use Rattle.text.specs.declared.line.Head.{Head}
use Rattle.text.specs.declared.line.Pair.{Pair}
use Rattle.text.specs.declared.line.Keeper.{Keeper}

-- before the first line all is 0
abbrev pub unread : Draft
unread = record {
  n = 0;
  load = 0;
  cap = 0;
  grid = 0;
  doors = replicate 17 blank;
  drives = replicate 17 (replicate 17 0);
  ahead = replicate 17 0;
  keepers = replicate 17 0;
}

-- the round line; the grid is 1 where it names none
abbrev pub with_head : Draft → Head → Draft
with_head d h = record d { n = h.n; load = h.load; cap = h.cap; grid = unwrap_or h.grid 1 }

-- the line of door k
abbrev pub with_door : Draft → ℕ → Door → Draft
with_door d k x = record d { doors = slice_set d.doors k x }

-- the drives from place i
abbrev pub with_row : Draft → ℕ → List ℕ → Draft
with_row d i row = record d { drives = slice_set d.drives i row }

-- the sets of the doors ahead of each door, with one pair more: the set of its second door gets its first
abbrev pub with_ahead : List ℕ → Pair → List ℕ
with_ahead sets p = slice_set sets p.then (bit_or (slice_index sets p.then) (2 ^ p.first))

-- the line of a pair
abbrev pub with_pair : Draft → Pair → Draft
with_pair d p = record d { ahead = with_ahead d.ahead p }

-- the keepers by door, with one more
abbrev pub with_kept : List ℕ → Keeper → List ℕ
with_kept keepers k = slice_set keepers k.door k.number

-- the line of a keeper
abbrev pub with_keeper : Draft → Keeper → Draft
with_keeper d k = record d { keepers = with_kept d.keepers k }
