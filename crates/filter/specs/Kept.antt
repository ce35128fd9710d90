-- The arcs that a filter leaves, before tidying, by the labels that stand: w records to a layer of any list, its nodes the places in use, the end after the last.
-- Nobody has to believe these steps: `words` of sweep, cut and quiet say what they come to on the records of a diagram.
use Rattle.std.specs.Prelude.{ℕ, zero, suc, Bool, true, if◌then◌else◌, ◌&&◌, List, ◌++◌, map, length, take, drop, Some, None, Option, ◌==◌, bit_or, count_ones, nat_lt, slice_index_or}
use Rattle.std.specs.List.{list_all}
use Rattle.layers.specs.declared.node.Node.{Node}
use Rattle.layers.specs.declared.node.Down.{Down}
use Rattle.layers.specs.declared.node.Up.{Up}
use Rattle.layers.specs.Labels.{bit_of}
use Rattle.layers.specs.Records.{nodes_in, ups_in}
use Rattle.layers.specs.Targets.{redirected}
use Rattle.tidying.specs.Counted.{arcs_of}
use Rattle.tidying.specs.InUse.{on_nodes}

-- the set with j has fewer doors than there are to be
abbrev pub few : ℕ → ℕ → ℕ → Bool
few set j need = nat_lt (count_ones (bit_or set (bit_of j))) need

-- the label of a record is so
abbrev pub HasLabel : {S V : Type 0} → (Down S V → Type 0) → Node S V → Type 0
HasLabel P u = P u.label.down

module _ {S V : Type 0} (goes : ℕ → ℕ → ℕ → Option (Down S V) → Option Up → Bool) where
  -- what becomes of the arc by door j to place b, from u in layer i, with h layers of arcs from there on, where vs is what follows the layer;
  -- an arc that leads past the list goes
  unfoldable pub kept_to : ℕ → ℕ → List (Node S V) → Node S V → ℕ → ℕ → ℕ
  kept_to i h vs u j b =
      if nat_lt b (length vs) then (if goes i h j (Some u.label.down) (slice_index_or (ups_in vs) b None) then 0 else suc b) else 0

  unfoldable pub kept_node : ℕ → ℕ → List (Node S V) → Node S V → Node S V
  unfolding kept_to redirected
  kept_node i h vs u = redirected (kept_to i h vs u) u

  -- k layers from layer i on, w records to each, and the end
  unfoldable pub kept_from : ℕ → ℕ → ℕ → List (Node S V) → List (Node S V)
  unfolding kept_node
  kept_from w i zero xs = xs
  kept_from w i (suc k) xs = on_nodes (map (kept_node i (suc k) (drop w xs))) (take w xs) ++ kept_from w (suc i) k (drop w xs)

  -- a node keeps its arcs: as many are left
  unfoldable pub stays : ℕ → ℕ → List (Node S V) → Node S V → Bool
  unfolding kept_node arcs_of
  stays i h vs u = arcs_of (kept_node i h vs u) == arcs_of u

  -- so do all nodes of k layers from layer i on
  unfoldable pub all_stay : ℕ → ℕ → ℕ → List (Node S V) → Bool
  unfolding stays
  all_stay w i zero xs = true
  all_stay w i (suc k) xs = list_all (stays i (suc k) (drop w xs)) (nodes_in (take w xs)) && all_stay w (suc i) k (drop w xs)
