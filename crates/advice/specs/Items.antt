-- What a number of the text says, in words.
use Rattle.std.specs.Prelude.{ℕ, List, ◌++◌, codes, decimal, ◌==◌, if◌then◌else◌}
use Rattle.text.specs.declared.fault.Item as items
use Rattle.text.specs.declared.fault.Item.TheVariants as item

-- a place from which drives are told
abbrev pub place_text : ℕ → List ℕ
place_text from = if from == 0 then codes "the yard" else codes "door " ++ decimal from

-- the minutes from a place to a door
abbrev pub drive_text : ℕ → ℕ → List ℕ
drive_text from to = codes "the minutes of the drive from " ++ place_text from ++ codes " to door " ++ decimal to

-- the change at a door
abbrev pub change_text : ℕ → List ℕ
change_text j = codes "the key boxes picked up at door " ++ decimal j ++ codes ", or left there if below 0"

-- what each number says
abbrev pub item_text : items.Item → List ℕ
item_text item.Doors = codes "how many doors there are"
item_text item.StartLoad = codes "the key boxes in the van at the start"
item_text item.Cap = codes "the most key boxes that the van holds (no fewer than at the start)"
item_text item.Grid = codes "the grid (work starts only at multiples of so many minutes)"
item_text item.Door = codes "the number of the next door (in turn from 1)"
item_text (item.Opens j) =
    codes "the minute at which door " ++ decimal j ++ codes " opens, counted from the round's start"
item_text (item.Closes j) =
    codes "the minute at which door " ++ decimal j ++ codes " closes, counted from the round's start"
item_text (item.DueMinute j) =
    codes "the minute after which door " ++ decimal j ++ codes " is late, counted from the round's start"
item_text (item.Work j) = codes "the minutes of work at door " ++ decimal j
item_text item.Place = codes "the number of the next place (in turn from 0, the yard)"
item_text (item.Drive from to) = drive_text from to
item_text item.First = codes "the earlier door of the pair"
item_text item.Keeper = codes "the number of the door's keeper"
