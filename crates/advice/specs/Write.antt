-- What to write where a text is at fault, in words.
use Rattle.std.specs.Prelude.{ℕ, List, [], ◌∷◌, ◌++◌, codes, decimal, ◌==◌, if◌then◌else◌}
use Rattle.std.specs.List.{flat_map, range_with_len}
use Rattle.doors.specs.Sets.{has}
use Rattle.text.specs.declared.fault.Due as dues
use Rattle.text.specs.declared.fault.Due.TheVariants as due
use Rattle.text.specs.declared.fault.Item.TheVariants as item
use Rattle.advice.specs.Parts.{joined_text}
use Rattle.advice.specs.Expected.{range_text}
use Rattle.advice.specs.Forms.{stage_form, stage_lines, kind_form, kind_lines}

-- a number from low to high
abbrev pub number_to_write : ℕ → ℕ → List ℕ
number_to_write low high =
    if low == high then decimal low
    else range_text low high ++ codes ", in digits, with no zero in front and no sign"

-- where no such line may stand
abbrev pub no_line : List ℕ
no_line = codes "nothing, and take the line out"

-- the earlier door of a pair, from low to high, which is how many doors there are
abbrev pub first_to_write : ℕ → ℕ → List ℕ
first_to_write low high = if high == 1 then no_line else number_to_write low high

-- one of the doors 1 to n other than that one
abbrev pub other_to_write : ℕ → ℕ → List ℕ
other_to_write than n =
    if n == 1 then no_line
    else joined_text (codes "a door from 1 to " ∷ decimal n ∷ codes " other than " ∷ decimal than ∷ [])

-- a door behind a blank, if it is in the set
abbrev pub door_in : ℕ → ℕ → List ℕ
door_in set j = if has set j then codes " " ++ decimal j else []

-- the doors 1 to k of a set, each behind a blank
unfoldable pub doors_in : ℕ → ℕ → List ℕ
doors_in set k = flat_map (door_in set) (range_with_len 1 k)

-- one of the doors without a keeper line
abbrev pub keeperless_to_write : ℕ → List ℕ
keeperless_to_write free =
    if free == 0 then no_line
    else codes "one of the doors with no keeper line yet:" ++ doors_in free 16

-- what would be right there
abbrev pub write_text : dues.Due → List ℕ
write_text (due.Line s) = stage_form s
write_text (due.Fields k least most) = kind_form k
write_text (due.Number item.First low high) = first_to_write low high
write_text (due.Number i low high) = number_to_write low high
write_text (due.Change j) =
    codes "a number from -99 to 99, in digits, with no zero in front, and with a minus in front if it is below 0"
write_text (due.Dash from) = codes "-"
write_text (due.OtherDoor than n) = other_to_write than n
write_text (due.KeeperlessDoor free n) = keeperless_to_write free
write_text due.LineFeed = codes "a line feed at the end of the line (the Enter key writes one)"
write_text due.Shorter = codes "a text of at most 16384 bytes"

-- the lines that may stand there, where whole lines are due
abbrev pub lines_to_copy : dues.Due → List ℕ
lines_to_copy (due.Line s) = stage_lines s
lines_to_copy (due.Fields k least most) = kind_lines k
lines_to_copy d = []

-- the lines that say what to write
abbrev pub write_lines : dues.Due → List ℕ
write_lines d = codes "write: " ++ write_text d ++ codes "\n" ++ lines_to_copy d
