-- How an outlook reads: lines in plain words, with a line feed at the end of each.
use Rattle.std.specs.Prelude.{ℕ, ◌-◌, if◌then◌else◌, List, ◌∷◌, ◌++◌, codes, decimal, ◌==◌, nat_lt, slice_index}
use Rattle.std.specs.List.{flat_map, range_with_len}
use Rattle.round.specs.declared.door.Door.{Door}
use Rattle.round.specs.declared.table.Round.{Round}
use Rattle.round.specs.Clock.{door}
use Rattle.outlook.specs.declared.outlook.Outlook.{Outlook}
use Rattle.outlook.specs.declared.outlook.LoadOutlook.{LoadOutlook}
use Rattle.outlook.specs.declared.outlook.LoadOutlook.TheVariants.{Never, NotWithPairs, Kept}
use Rattle.outlook.specs.declared.relations.Relation.TheVariants.{Pair, Follows, Circle, Keeper}
use Rattle.outlook.specs.Reasons.{rules_out_all}
use Rattle.outlook.specs.Relations.{relation_lines}

-- how many doors there are
abbrev pub doors_words : ℕ → List ℕ
doors_words n = if n == 1 then codes "round: 1 door" else codes "round: " ++ decimal n ++ codes " doors"

-- when work starts
abbrev pub grid_words : ℕ → List ℕ
grid_words g =
    if g == 1 then codes "work starts at any minute\n"
    else codes "work starts at multiples of " ++ decimal g ++ codes " minutes\n"

-- how many doors there are, the key boxes, and when work starts
abbrev pub round_line : Round → List ℕ
round_line r =
    doors_words r.n
    ++ (codes "; key boxes: " ++ decimal r.load ++ codes " at the start, " ++ decimal r.cap ++ codes " at most; ")
    ++ grid_words r.grid

-- a door's hours and work
unfoldable pub hours_words : Door → List ℕ
hours_words d = codes "open " ++ decimal d.opens ++ codes " to " ++ decimal d.closes ++ codes ", work " ++ decimal d.work

-- what is left from the minute m till a door closes at the minute c
unfoldable pub spare_words : ℕ → ℕ → List ℕ
spare_words c m =
    if nat_lt c m then codes ": too late, whatever comes first"
    else codes ", " ++ decimal (c - m) ++ codes " to spare"

-- the line of door j
abbrev pub door_line : Outlook → ℕ → List ℕ
door_line o j =
    let d = door o.round.now j in
    let m = slice_index o.earliest j in
    codes "door " ++ decimal j ++ codes ": " ++ hours_words d
    ++ codes ", done at " ++ decimal m ++ codes " at the earliest" ++ spare_words d.closes m ++ codes "\n"

-- a line for each of the doors 1 to k
unfoldable pub door_lines : Outlook → ℕ → List ℕ
door_lines o k = flat_map (door_line o) (range_with_len 1 k)

-- doors, with a blank ahead of each
unfoldable pub door_words : List ℕ → List ℕ
door_words w = flat_map (λ j. 32 ∷ decimal j) w

-- whether the load can be kept
abbrev pub load_line : LoadOutlook → List ℕ
load_line Never = codes "load: kept by no order\n"
load_line NotWithPairs = codes "load: kept by some orders, but by none that keeps the pairs too\n"
load_line (Kept v) =
    codes "load: kept, and the pairs too, by the order" ++ door_words v.items
    ++ codes " (hours and keepers not asked)\n"

-- whether one of these lines rules out every order
abbrev pub last_line : Outlook → List ℕ
last_line o =
    if rules_out_all o then codes "no order is allowed\n"
    else codes "no single door, circle or load rules out every order; sheet takes all rules together, keepers too\n"

-- the whole text
abbrev pub outlook_text : Outlook → List ℕ
outlook_text o =
    let n = o.round.now.n in
    (round_line o.round.now ++ door_lines o n ++ relation_lines Pair o n ++ relation_lines Follows o n)
    ++ (relation_lines Circle o n ++ relation_lines Keeper o n ++ load_line o.load ++ last_line o)
