-- Two nodes of a layer joined, at the places lo and hi, of which lo is the lower.
-- Nobody has to believe these steps: `words` of `join` says what they come to.
use Rattle.std.specs.Prelude.{ℕ, suc, List, [], ◌∷◌, ◌++◌, map, take, drop, slice_index_or, slice_set}
use Rattle.layers.specs.declared.node.Node.{Node}
use Rattle.layers.specs.Join.{place_after_join, both_out, without_place}
use Rattle.layers.specs.Targets.{targets, with_targets, redirected}

-- the arc by a door to place b, once what was at hi stands at lo and what came after it has moved down
unfoldable pub moved_to : ℕ → ℕ → ℕ → ℕ → ℕ
unfolding place_after_join
moved_to lo hi j b = suc (place_after_join lo hi b)

-- a node of the layer before
unfoldable pub moved_node : {S V : Type 0} → ℕ → ℕ → Node S V → Node S V
unfolding moved_to redirected
moved_node lo hi x = redirected (moved_to lo hi) x

-- the out-arcs of both
unfoldable pub joined_node : {S V : Type 0} → Node S V → Node S V → Node S V
unfolding targets both_out
joined_node x y = with_targets x (both_out (targets x) (targets y))

-- of their layer: both at lo, hi taken out, and the place that is left at the end as z
unfoldable pub joined_layer : {S V : Type 0} → ℕ → ℕ → List (Node S V) → Node S V → List (Node S V)
unfolding joined_node without_place
joined_layer lo hi us z =
    let both = joined_node (slice_index_or us lo z) (slice_index_or us hi z) in
    without_place hi (slice_set us lo both) ++ z ∷ []

-- of the list from the layer before theirs on: that layer has the in-arcs
unfoldable pub joined_second : {S V : Type 0} → ℕ → ℕ → ℕ → List (Node S V) → Node S V → List (Node S V)
unfolding moved_node joined_layer
joined_second w lo hi xs z =
    let rest = drop w xs in
    map (moved_node lo hi) (take w xs) ++ (joined_layer lo hi (take w rest) z ++ drop w rest)
