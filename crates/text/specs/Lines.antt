-- What a line says, by its number and its fields, which count from 1; the kind is field 1.
use Rattle.std.specs.Prelude.{ℕ, ℤ, zero, suc, ◌+◌, ◌-◌, List, [], length, replicate, Option, Some, None, Ok, Err, Result, ◌==◌, slice_index, slice_index_or, slice_set, if◌then◌else◌}
use Rattle.text.specs.declared.fields.Line.{Line}
use Rattle.round.specs.declared.door.Door.{Door}
use Rattle.text.specs.declared.refusal.Refusal.{Refusal}
use Rattle.text.specs.declared.refusal.Refusal.TheVariants.{FieldCount, NotNumber, OutOfTurn, SecondKeeper}
use Rattle.text.specs.declared.line.Head.{Head}
use Rattle.text.specs.declared.line.Pair.{Pair}
use Rattle.text.specs.declared.line.Keeper.{Keeper}
use Rattle.text.specs.Pieces.{fields_in}
use Rattle.text.specs.Fields.{number_in, change_in}
use Rattle.text.specs.Number.{dash}

-- the fields of a line
abbrev pub fields_of : Line → List (List ℕ)
fields_of line = fields_in line.bytes.now

-- go on with the value, or keep the refusal
abbrev pub and_then : {A B : Type 0} → Result A Refusal → (A → Result B Refusal) → Result B Refusal
and_then (Ok a) k = k a
and_then (Err e) k = Err e

-- the number in field k, from low to high
abbrev pub number_at : ℕ → List (List ℕ) → ℕ → ℕ → ℕ → Result ℕ Refusal
number_at line fs k low high = number_in low high (slice_index_or fs (k - 1) []) line k

-- the change in field k
abbrev pub change_at : ℕ → List (List ℕ) → ℕ → Result ℤ Refusal
change_at line fs k = change_in (slice_index_or fs (k - 1) []) line k

-- the "-" in field k, for a drive of 0 minutes
abbrev pub dash_at : ℕ → List (List ℕ) → ℕ → Result ℕ Refusal
dash_at line fs k = if dash (slice_index_or fs (k - 1) []) then Ok 0 else Err (NotNumber line k)

-- go on where the line has that many fields
abbrev pub counted : {A : Type 0} → ℕ → ℕ → List (List ℕ) → Result A Refusal → Result A Refusal
counted k line fs r = if length fs == k then r else Err (FieldCount line)

-- field 2 has the number that is due, from low to high
abbrev pub in_turn : ℕ → ℕ → ℕ → ℕ → List (List ℕ) → Result (Unit {0}) Refusal
in_turn low high due line fs =
    and_then (number_at line fs 2 low high) (λ number.
    if number == due then Ok tt else Err (OutOfTurn line 2))

-- the grid in field 5 of a round line that has as many
abbrev pub grid_of : ℕ → List (List ℕ) → Result (Option ℕ) Refusal
grid_of line fs =
    if length fs == 5 then and_then (number_at line fs 5 1 60) (λ grid. Ok (Some grid)) else Ok None

-- the round line: how many doors, the start load and the cap, and in a line of five fields the grid
abbrev pub head_of : ℕ → List (List ℕ) → Result Head Refusal
head_of line fs =
    counted (if length fs == 5 then 5 else 4) line fs
    (and_then (number_at line fs 2 1 16) (λ n.
    and_then (number_at line fs 3 0 999) (λ load.
    and_then (number_at line fs 4 load 999) (λ cap.
    and_then (grid_of line fs) (λ grid.
    Ok (record { n = n; load = load; cap = cap; grid = grid }))))))

-- the fields of a door line after the door's number
abbrev pub door_of : ℕ → List (List ℕ) → Result Door Refusal
door_of line fs =
    and_then (number_at line fs 3 0 9999) (λ opens.
    and_then (number_at line fs 4 0 9999) (λ closes.
    and_then (number_at line fs 5 0 9999) (λ due.
    and_then (number_at line fs 6 1 999) (λ work.
    and_then (change_at line fs 7) (λ change.
    Ok (record { opens = opens; closes = closes; due = due; work = work; change = change }))))))

-- a door line, where the door `due` of n is the next
abbrev pub door_due : ℕ → ℕ → ℕ → List (List ℕ) → Result Door Refusal
door_due n due line fs = counted 7 line fs (and_then (in_turn 1 n due line fs) (λ _. door_of line fs))

-- the drive from i to door j, in field j + 2: "-" where they are the same
abbrev pub leg_in : ℕ → ℕ → ℕ → List (List ℕ) → Result ℕ Refusal
leg_in i j line fs =
    if i == j then dash_at line fs (j + 2) else number_at line fs (j + 2) 0 999

-- the drives from i to the m doors from j on, into a row
abbrev pub row_from : ℕ → ℕ → ℕ → ℕ → List (List ℕ) → List ℕ → Result (List ℕ) Refusal
row_from zero i j line fs row = Ok row
row_from (suc m) i j line fs row =
    and_then (leg_in i j line fs) (λ leg. row_from m i (j + 1) line fs (slice_set row j leg))

-- a drive line, where the place `due` is the next
abbrev pub row_due : ℕ → ℕ → ℕ → List (List ℕ) → Result (List ℕ) Refusal
row_due n due line fs =
    counted (n + 2) line fs
    (and_then (in_turn 0 n due line fs) (λ _. row_from n due 1 line fs (replicate 17 0)))

-- a line of a pair: two doors, not the same
abbrev pub pair_of : ℕ → ℕ → List (List ℕ) → Result Pair Refusal
pair_of n line fs =
    counted 3 line fs
    (and_then (number_at line fs 2 1 n) (λ i.
    and_then (number_at line fs 3 1 n) (λ j.
    if i == j then Err (OutOfTurn line 3) else Ok (record { first = i; then = j }))))

-- a line of a keeper: a door that has none in the table, else 29 at the door's field, and then the keeper's number
abbrev pub keeper_of : ℕ → List ℕ → ℕ → List (List ℕ) → Result Keeper Refusal
keeper_of n keepers line fs =
    counted 3 line fs
    (and_then (number_at line fs 2 1 n) (λ door.
    if slice_index keepers door == 0
    then and_then (number_at line fs 3 1 99) (λ number. Ok (record { door = door; number = number }))
    else Err (SecondKeeper line 2)))
