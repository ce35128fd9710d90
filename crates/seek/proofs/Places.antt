-- One more place of a row.
use Rattle.std.proofs.Common.{◌≡◌, ℕ, ◌+◌, ◌<◌, ◌≤◌, List, [], ◌∷◌, ◌++◌, length, get_or, take, drop, map, set, replicate, arith}
use Rattle.std.proofs.lemmas.Grind.{common_steps}
use Rattle.std.proofs.lemmas.List.{drop_all, drop_more, take_more, map-append, length-map, length-take}
use Rattle.layers.specs.declared.node.Node.{Node}
use Rattle.layers.specs.Records.{nodes_in}
use Rattle.seek.specs.declared.seen.Seen.{Seen}
use Rattle.seek.specs.Rows.{none}

-- a row says at each target what the list says, and nothing at others
abbrev pub IsRow : List Seen → List Seen → Type 0
IsRow row ys = (t : ℕ) → get_or row t none ≡ get_or (none ∷ ys) t none

pub is_none : (m t : ℕ) → get_or (replicate m none) t none ≡ none
is_none m t = grind (arith, common_steps)

pub row-start : (m : ℕ) → IsRow (replicate m none) []
row-start m t = grind (arith, common_steps)

row_more : (ys row : List Seen) (a : ℕ) (v : Seen) → a ≡ length ys → a + 1 < length row → IsRow row ys → IsRow (set row (a + 1) v) (ys ++ v ∷ [])
row_more ys row a v e long h t = grind (arith, common_steps, h t)

module _ {S V : Type 0} (us : List (Node S V)) (a : ℕ) (u : Node S V) (lt : a < length us) (is : u ≡ get_or us a u) where
  -- the places in use stand first
  pub standing-some : 1 ≤ u.label.down.lasts → nodes_in us ≡ take a us ++ nodes_in (drop a us) → nodes_in us ≡ take (a + 1) us ++ nodes_in (drop (a + 1) us)
  standing-some on e = grind (arith, common_steps, drop_more us a u lt, take_more us a u lt)

  -- and no other: the row is whole
  pub row-ends : (f : Node S V → Seen) (row : List Seen) → u.label.down.lasts ≡ 0 → nodes_in us ≡ take a us ++ nodes_in (drop a us) → IsRow row (map f (take a us)) → IsRow row (map f (nodes_in us))
  row-ends f row off e h = let all : nodes_in us ≡ take a us = grind (arith, common_steps, drop_more us a u lt) in rw all h

  -- one more node
  pub node_more : (f : Node S V → Seen) (row : List Seen) (v : Seen) → a + 1 < length row → v ≡ f u → IsRow row (map f (take a us)) → IsRow (set row (a + 1) v) (map f (take (a + 1) us))
  node_more f row v long e h =
      let old = row_more (map f (take a us)) row a v (omega (arith, length-map (take a us) f, length-take a us)) long h in
      rw (take_more us a u lt, map-append f (take a us) (get_or us a u ∷ []), ← is, ← e) old

-- past the last place it is whole, too
pub row-full : {S V : Type 0} (us : List (Node S V)) (a : ℕ) (f : Node S V → Seen) (row : List Seen) → length us ≤ a → nodes_in us ≡ take a us ++ nodes_in (drop a us) → IsRow row (map f (take a us)) → IsRow row (map f (nodes_in us))
row-full us a f row past e h = let all : nodes_in us ≡ take a us = grind (arith, common_steps, drop_all a us past) in rw all h
