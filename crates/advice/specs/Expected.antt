-- What is expected where a text is at fault, in words.
use Rattle.std.specs.Prelude.{ℕ, List, [], ◌∷◌, ◌++◌, codes, decimal, ◌==◌, if◌then◌else◌}
use Rattle.text.specs.declared.fault.Due as dues
use Rattle.text.specs.declared.fault.Due.TheVariants as due
use Rattle.text.specs.declared.fault.Item.TheVariants as item
use Rattle.text.specs.declared.kind.Kind as kinds
use Rattle.text.specs.declared.kind.Kind.TheVariants as kind
use Rattle.text.specs.declared.stage.Stage as stages
use Rattle.text.specs.declared.stage.Stage.TheVariants as stage
use Rattle.advice.specs.Found.{count_text}
use Rattle.advice.specs.Parts.{joined_text}
use Rattle.advice.specs.Items.{place_text, item_text, change_text}

-- the lines that may come next
abbrev pub stage_text : stages.Stage → List ℕ
stage_text stage.Head = codes "the round line, which comes first"
stage_text (stage.Doors j) =
    codes "the line of door " ++ decimal j ++ codes " (the round line says how many doors there are)"
stage_text (stage.Drives from) =
    codes "the line of the drives from " ++ place_text from ++ codes " (the round line says how many doors there are)"
stage_text stage.Pairs =
    codes "a first line, a keeper line, or the end of the text (the round line says how many doors there are)"
stage_text stage.Keepers =
    codes "a keeper line, or the end of the text (first lines stand above the keeper lines)"

-- so many fields, or one of two counts
abbrev pub span_text : ℕ → ℕ → List ℕ
span_text least most =
    if least == most then count_text most
    else decimal least ++ codes " or " ++ decimal most ++ codes " fields"

-- what the fields of a line are called; a line with a wrong count of fields is always of one of the five kinds
abbrev pub names_text : kinds.Kind → List ℕ
names_text kind.Round = codes ": round, doors, start load, cap, and the grid if there is one"
names_text kind.Door = codes ": door, its number, opens, closes, due, work, and change"
names_text kind.Drive =
    codes ": drive, place, and the minutes to each door (the round line says how many doors there are)"
names_text kind.First = codes ": first, the earlier door, and the later door"
names_text kind.Keeper = codes ": keeper, door, and the number of its keeper"
names_text kind.Other = []

-- a number from low to high
abbrev pub range_text : ℕ → ℕ → List ℕ
range_text low high =
    if low == high then codes "exactly " ++ decimal low
    else codes "a number from " ++ decimal low ++ codes " to " ++ decimal high

-- a number, and what it says
abbrev pub number_text : List ℕ → ℕ → ℕ → List ℕ
number_text item low high = item ++ codes ", " ++ range_text low high

-- a pair in a round of one door
abbrev pub no_pair : List ℕ
no_pair = codes "no pair, since there is one door"

-- the earlier door of a pair, from low to high, which is how many doors there are
abbrev pub first_text : ℕ → ℕ → List ℕ
first_text low high = if high == 1 then no_pair else number_text (item_text item.First) low high

-- the later door of a pair, of the doors 1 to n
abbrev pub other_text : ℕ → ℕ → List ℕ
other_text than n =
    if n == 1 then no_pair
    else
    joined_text (codes "the later door of the pair, a door from 1 to " ∷ decimal n
    ∷ codes " other than " ∷ decimal than ∷ [])

-- the door of a keeper line, of the doors 1 to n, where these have none
abbrev pub keeperless_text : ℕ → ℕ → List ℕ
keeperless_text free n =
    if free == 0 then codes "no keeper line more, since each door has one"
    else if n == 1 then codes "door 1, which has no keeper line yet"
    else
    joined_text (codes "the door of the keeper line, a door from 1 to " ∷ decimal n
    ∷ codes " that has no keeper line yet" ∷ [])

-- what is expected
abbrev pub expected_text : dues.Due → List ℕ
expected_text (due.Line s) = stage_text s
expected_text (due.Fields k least most) = span_text least most ++ names_text k
expected_text (due.Number item.First low high) = first_text low high
expected_text (due.Number i low high) = number_text (item_text i) low high
expected_text (due.Change j) = change_text j ++ codes ", a number from -99 to 99"
expected_text (due.Dash from) = codes "\"-\" alone, for the drive from " ++ place_text from ++ codes " to itself"
expected_text (due.OtherDoor than n) = other_text than n
expected_text (due.KeeperlessDoor free n) = keeperless_text free n
expected_text due.LineFeed = codes "a line feed at the end of the line"
expected_text due.Shorter = codes "a text of at most 16384 bytes"
