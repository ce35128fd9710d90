-- A node parted: a new last node takes the in-arcs that do not stay, and copies the out-arcs.
-- `stays` is asked of the label of an in-arc's source, and its door.
-- Nobody has to believe these steps: `words` of `part` and of `part_layer` say what they come to.
use Rattle.std.specs.Prelude.{ℕ, suc, Bool, if◌then◌else◌, not, ◌&&◌, ◌||◌, List, ◌++◌, map, take, drop, ◌==◌, slice_index_or, slice_set}
use Rattle.layers.specs.declared.node.Node.{Node}
use Rattle.layers.specs.declared.node.Label.{Label}
use Rattle.layers.specs.Targets.{redirected}

-- the same test, but the arcs of a place that is not in use stay
abbrev pub or_unused : {S V : Type 0} → (Label S V → ℕ → Bool) → Label S V → ℕ → Bool
or_unused stays u j = u.down.lasts == 0 || stays u j

module _ {S V : Type 0} (stays : Label S V → ℕ → Bool) where
  -- the arc of a record with the label l by door j to place b, where the node at place a is parted and the new one stands at m
  unfoldable pub parted_to : ℕ → ℕ → Label S V → ℕ → ℕ → ℕ
  parted_to a m l j b = if b == a && not (stays l j) then suc m else suc b

  -- a node of the layer before
  unfoldable pub parted_node : ℕ → ℕ → Node S V → Node S V
  unfolding parted_to redirected
  parted_node a m u = redirected (parted_to a m u.label) u

  -- of the list from the layer before theirs on, w records to a layer: that layer has the in-arcs
  unfoldable pub parted_second : ℕ → ℕ → ℕ → List (Node S V) → Node S V → List (Node S V)
  unfolding parted_node
  parted_second w a m xs z =
      let rest = drop w xs in
      map (parted_node a m) (take w xs) ++ slice_set rest m (slice_index_or rest a z)
