-- The form of a round's text: how contents are written, which contents are in range, and the round that they make.
use Rattle.std.specs.Prelude.{◌≡◌, ◌≢◌, ⊤, ℕ, ◌+◌, ◌≤◌, List, [], ◌∷◌, ◌++◌, map, fold, length, replicate, pos, negsuc, ◌≤ℤ◌, codes, decimal, ◌==◌, slice_set, All, AllPairs, Option, Some, None, IfSome, if◌then◌else◌}
use Rattle.std.specs.List.{join_with_byte}
use Rattle.std.specs.Option.{unwrap_or}
use Rattle.std.specs.Str.{byte}
use Rattle.std.specs.Fmt.{signed_decimal}
use Rattle.round.specs.Tables.{blank}
use Rattle.round.specs.declared.door.Door.{Door}
use Rattle.text.specs.declared.draft.Draft.{Draft}
use Rattle.text.specs.declared.line.Head.{Head}
use Rattle.text.specs.declared.line.Pair.{Pair}
use Rattle.text.specs.declared.line.Keeper.{Keeper}
use Rattle.text.specs.Drafts.{with_ahead, with_kept}

-- what a text says: its doors from 1, the drives from each place from the yard, its pairs and its keepers, in order
pub record Content : Type 0 where
  pub head : Head
  pub doors : List Door
  pub rows : List (List ℕ)
  pub pairs : List Pair
  pub keepers : List Keeper

-- f of each element and its number, where the first has the number i
abbrev pub map_from : {A B : Type 0} → (ℕ → A → B) → ℕ → List A → List B
map_from f i [] = []
map_from f i (x ∷ xs) = f i x ∷ map_from f (i + 1) xs

-- the field of the grid, where the round line has one
abbrev pub grid_fields : Option ℕ → List (List ℕ)
grid_fields None = []
grid_fields (Some g) = decimal g ∷ []

-- the fields of the round line
abbrev pub head_fields : Head → List (List ℕ)
head_fields h = codes "round" ∷ decimal h.n ∷ decimal h.load ∷ decimal h.cap ∷ grid_fields h.grid

-- the fields of the line of door k
abbrev pub door_fields : ℕ → Door → List (List ℕ)
door_fields k x =
    codes "door" ∷ decimal k ∷ decimal x.opens ∷ decimal x.closes ∷ decimal x.due ∷ decimal x.work
    ∷ signed_decimal x.change ∷ []

-- the drive from i to j: "-" where they are the same
abbrev pub leg_field : ℕ → ℕ → ℕ → List ℕ
leg_field i j v = if i == j then codes "-" else decimal v

-- the fields of the drive line of place i
abbrev pub row_fields : ℕ → List ℕ → List (List ℕ)
row_fields i vs = codes "drive" ∷ decimal i ∷ map_from (leg_field i) 1 vs

-- the fields of the line of a pair
abbrev pub pair_fields : Pair → List (List ℕ)
pair_fields p = codes "first" ∷ decimal p.first ∷ decimal p.then ∷ []

-- the fields of the line of a keeper
abbrev pub keeper_fields : Keeper → List (List ℕ)
keeper_fields k = codes "keeper" ∷ decimal k.door ∷ decimal k.number ∷ []

-- the lines of a text, by their fields
abbrev pub records : Content → List (List (List ℕ))
records c =
    head_fields c.head
    ∷ (map_from door_fields 1 c.doors
    ++ (map_from row_fields 0 c.rows ++ (map pair_fields c.pairs ++ map keeper_fields c.keepers)))

-- the lines, with tabs between the fields and a line feed at the end of each
abbrev pub written : List (List (List ℕ)) → List ℕ
written [] = []
written (fs ∷ fss) = join_with_byte (byte "\t") fs ++ (byte "\n" ∷ written fss)

-- the text that says it
abbrev pub text_of : Content → List ℕ
text_of c = written (records c)

-- P holds of each number and its element, where the first has the number i
abbrev pub AllFrom : {A : Type 0} → (ℕ → A → Type 0) → ℕ → List A → Type 0
AllFrom P i [] = ⊤
AllFrom P i (x ∷ xs) = P i x × AllFrom P (i + 1) xs

-- a grid that is written is in range
abbrev pub GridFits : Option ℕ → Type 0
GridFits grid = IfSome grid (λ g. (1 ≤ g) × (g ≤ 60))

-- the numbers of a door are in range
pub record DoorFits (x : Door) : Type 0 where
  pub opens : x.opens ≤ 9999
  pub closes : x.closes ≤ 9999
  pub due : x.due ≤ 9999
  pub some : 1 ≤ x.work
  pub work : x.work ≤ 999
  pub low : negsuc 98 ≤ℤ x.change
  pub high : x.change ≤ℤ pos 99

-- a drive from i to j: up to 999 minutes, and 0 to the door itself
abbrev pub LegFits : ℕ → ℕ → ℕ → Type 0
LegFits i j v = (v ≤ 999) × (i ≡ j → v ≡ 0)

-- the drives from i to each of n doors
abbrev pub RowFits : ℕ → ℕ → List ℕ → Type 0
RowFits n i vs = (length vs ≡ n) × AllFrom (LegFits i) 1 vs

-- a pair of two of the n doors, not the same
pub record PairFits (n : ℕ) (p : Pair) : Type 0 where
  pub first : 1 ≤ p.first
  pub most : p.first ≤ n
  pub second : 1 ≤ p.then
  pub last : p.then ≤ n
  pub apart : p.first ≢ p.then

-- a keeper of one of the n doors
pub record KeeperFits (n : ℕ) (k : Keeper) : Type 0 where
  pub door : 1 ≤ k.door
  pub most : k.door ≤ n
  pub number : 1 ≤ k.number
  pub last : k.number ≤ 99

-- a and b are keepers of different doors
abbrev pub DifferInDoor : Keeper → Keeper → Type 0
DifferInDoor a b = a.door ≢ b.door

-- all numbers are in range, with a line for each of the n doors and for each of the n + 1 places, and no door has two lines of
-- keepers
pub record Fits (c : Content) : Type 0 where
  pub one : 1 ≤ c.head.n
  pub most : c.head.n ≤ 16
  pub load : c.head.load ≤ c.head.cap
  pub cap : c.head.cap ≤ 999
  pub grid : GridFits c.head.grid
  pub many : length c.doors ≡ c.head.n
  pub doors : All DoorFits c.doors
  pub places : length c.rows ≡ c.head.n + 1
  pub rows : AllFrom (RowFits c.head.n) 0 c.rows
  pub pairs : All (PairFits c.head.n) c.pairs
  pub keepers : All (KeeperFits c.head.n) c.keepers
  pub once : AllPairs DifferInDoor c.keepers

-- a table whose places from i on hold the elements
abbrev pub fill : {A : Type 0} → ℕ → List A → List A → List A
fill i [] table = table
fill i (x ∷ xs) table = fill (i + 1) xs (slice_set table i x)

-- the drives to the doors from 1 on, each at the place of its door
abbrev pub row_of : List ℕ → List ℕ
row_of vs = fill 1 vs (replicate 17 0)

-- the round that it makes; the grid is 1 where none is written, and what no line fills is 0
abbrev pub round_of : Content → Draft
round_of c = record {
  n = c.head.n;
  load = c.head.load;
  cap = c.head.cap;
  grid = unwrap_or c.head.grid 1;
  doors = fill 1 c.doors (replicate 17 blank);
  drives = fill 0 (map row_of c.rows) (replicate 17 (replicate 17 0));
  ahead = fold with_ahead (replicate 17 0) c.pairs;
  keepers = fold with_kept (replicate 17 0) c.keepers;
}

-- the text is that of some content in range, and d is its round
pub record HasForm (text : List ℕ) (d : Draft) : Type 0 where
  pub content : Content
  pub fits : Fits content
  pub same : text_of content ≡ text
  pub round : round_of content ≡ d
