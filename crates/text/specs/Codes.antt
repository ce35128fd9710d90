-- The number, the line and the field of each refusal.
use Rattle.std.specs.Prelude.{ℕ, List, ◌++◌, codes, decimal}
use Rattle.text.specs.declared.refusal.Refusal.{Refusal}
use Rattle.text.specs.declared.refusal.Refusal.TheVariants.{NotDue, FieldCount, NotNumber, OutOfRange, OutOfTurn, Unended, TooLong, SecondKeeper}

-- why, by its number
abbrev pub number_of : Refusal → ℕ
number_of (NotDue l) = 1
number_of (FieldCount l) = 2
number_of (NotNumber l f) = 3
number_of (OutOfRange l f) = 4
number_of (OutOfTurn l f) = 5
number_of (Unended l) = 6
number_of TooLong = 7
number_of (SecondKeeper l f) = 29

-- the line, from 1; a text that is too long is refused as a whole
abbrev pub line_of : Refusal → ℕ
line_of (NotDue l) = l
line_of (FieldCount l) = l
line_of (NotNumber l f) = l
line_of (OutOfRange l f) = l
line_of (OutOfTurn l f) = l
line_of (Unended l) = l
line_of TooLong = 0
line_of (SecondKeeper l f) = l

-- the field, from 1; a line that is refused as a whole is refused at its first field
abbrev pub field_of : Refusal → ℕ
field_of (NotDue l) = 1
field_of (FieldCount l) = 1
field_of (NotNumber l f) = f
field_of (OutOfRange l f) = f
field_of (OutOfTurn l f) = f
field_of (Unended l) = 1
field_of TooLong = 0
field_of (SecondKeeper l f) = f

-- the line that tells of it: number, line and field, with tabs between
abbrev pub told : Refusal → List ℕ
told r =
    codes "refused\t" ++ decimal (number_of r) ++ codes "\t" ++ decimal (line_of r) ++ codes "\t" ++ decimal (field_of r)
