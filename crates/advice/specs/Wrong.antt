-- Where a text is at fault, and what is wrong, in words.
use Rattle.std.specs.Prelude.{ℕ, List, ◌++◌, codes, decimal}
use Rattle.text.specs.declared.refusal.Refusal.{Refusal}
use Rattle.text.specs.declared.refusal.Refusal.TheVariants.{NotDue, FieldCount, NotNumber, OutOfRange, OutOfTurn, Unended, TooLong, SecondKeeper}
use Rattle.text.specs.declared.fault.Due as dues
use Rattle.text.specs.declared.fault.Due.TheVariants as due
use Rattle.text.specs.declared.fault.Found as founds
use Rattle.text.specs.declared.fault.Found.TheVariants as found

-- a line, and a field of a line
abbrev pub line_text : ℕ → List ℕ
line_text line = codes "line " ++ decimal line

abbrev pub field_text : ℕ → ℕ → List ℕ
field_text line field = codes "line " ++ decimal line ++ codes ", field " ++ decimal field

-- where: a field of a line, a line, or the text as a whole
abbrev pub where_text : Refusal → List ℕ
where_text (NotDue l) = line_text l
where_text (FieldCount l) = line_text l
where_text (NotNumber l k) = field_text l k
where_text (OutOfRange l k) = field_text l k
where_text (OutOfTurn l k) = field_text l k
where_text (Unended l) = line_text l
where_text TooLong = codes "the text"
where_text (SecondKeeper l k) = field_text l k

-- another kind of line is due than the one found, or any line at all
abbrev pub not_due_text : founds.Found → List ℕ
not_due_text found.End = codes "the text ends too early"
not_due_text f = codes "another kind of line is expected here"

-- a number is due, or a dash
abbrev pub not_number_text : dues.Due → List ℕ
not_number_text (due.Dash from) = codes "not a \"-\""
not_number_text d = codes "not a number"

-- the next number is due, or another door
abbrev pub out_of_turn_text : dues.Due → List ℕ
out_of_turn_text (due.OtherDoor than n) = codes "a door paired with itself"
out_of_turn_text d = codes "out of turn"

-- what is wrong
abbrev pub wrong_text : Refusal → dues.Due → founds.Found → List ℕ
wrong_text (NotDue l) d f = not_due_text f
wrong_text (FieldCount l) d f = codes "wrong number of fields"
wrong_text (NotNumber l k) d f = not_number_text d
wrong_text (OutOfRange l k) d f = codes "out of range"
wrong_text (OutOfTurn l k) d f = out_of_turn_text d
wrong_text (Unended l) d f = codes "no line feed ends the line"
wrong_text TooLong d f = codes "too long"
wrong_text (SecondKeeper l k) d f = codes "the door has a keeper already"
