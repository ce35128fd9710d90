-- What holds of two doors of a round, as lines.
use Rattle.std.specs.Prelude.{ℕ, Bool, not, ◌&&◌, if◌then◌else◌, List, [], ◌++◌, codes, decimal, ◌==◌, nat_lt, slice_index}
use Rattle.std.specs.List.{flat_map, range_with_len}
use Rattle.doors.specs.Sets.{has}
use Rattle.rules.specs.Keepers.{share_keeper}
use Rattle.outlook.specs.declared.outlook.Outlook.{Outlook}
use Rattle.outlook.specs.declared.relations.Relation.{Relation}
use Rattle.outlook.specs.declared.relations.Relation.TheVariants.{Pair, Follows, Circle, Keeper}

-- whether it holds of doors i and j: a pair puts i ahead of j; no pair does, but several, one after the other, and i is not j;
-- i is j, and has to come ahead of itself; i is below j, and they have one keeper
abbrev pub holds : Relation → Outlook → ℕ → ℕ → Bool
holds Pair o i j = has (slice_index o.round.now.ahead j) i
holds Follows o i j = has (slice_index o.ahead j) i && (not (has (slice_index o.round.now.ahead j) i) && not (i == j))
holds Circle o i j = i == j && has (slice_index o.ahead j) j
holds Keeper o i j = nat_lt i j && share_keeper o.round.now.keepers i j

-- the line of doors i and j, where k is the keeper of j
abbrev pub relation_line : Relation → ℕ → ℕ → ℕ → List ℕ
relation_line Pair k i j = codes "pair: door " ++ decimal i ++ codes " ahead of door " ++ decimal j ++ codes "\n"
relation_line Follows k i j = codes "follows: door " ++ decimal i ++ codes " ahead of door " ++ decimal j ++ codes "\n"
relation_line Circle k i j = codes "circle: door " ++ decimal j ++ codes " ahead of itself, which no order can keep\n"
relation_line Keeper k i j =
    codes "keeper " ++ decimal k ++ codes ": doors " ++ decimal i ++ codes " and " ++ decimal j
    ++ codes " not one straight after the other\n"

-- a line for each of the doors 1 to k of which it holds, with door j
unfoldable pub lines_with : Relation → Outlook → ℕ → ℕ → List ℕ
lines_with x o j k =
    flat_map (λ i. if holds x o i j then relation_line x (slice_index o.round.now.keepers j) i j else []) (range_with_len 1 k)

-- the same for each of the doors 1 to k as door j: by the second, then by the first door
unfoldable pub relation_lines : Relation → Outlook → ℕ → List ℕ
relation_lines x o k = flat_map (λ j. lines_with x o j o.round.now.n) (range_with_len 1 k)
