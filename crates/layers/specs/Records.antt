-- The lent list of records: node a of layer i at place i * W + a - 1, the end at n * W.
use Rattle.std.specs.Prelude.{ℕ, zero, suc, Bool, if◌then◌else◌, not, List, [], ◌∷◌, ◌++◌, map, take, drop, Some, None, Option, unwrap_or, is_some, ◌==◌, slice_index, slice_index_or}
use Rattle.layers.specs.declared.node.Arcs.{Arcs}
use Rattle.layers.specs.declared.node.Node.{Node}
use Rattle.layers.specs.declared.node.Down.{Down}
use Rattle.layers.specs.declared.node.Up.{Up}
use Rattle.layers.specs.Net.{table, Outs, Layer, Net, width}
use Rattle.layers.specs.Settings.{Setting}
use Rattle.layers.specs.Labels.{end_up, no_up, first_labels, blank_label, labels_next, ups}

-- ---- reading: what stands in the records
module _ {S V : Type 0} where
  -- a place is used if its label has a last door
  abbrev pub is_used : Node S V → Bool
  is_used x = not (x.label.down.lasts == 0)

  -- the nodes of a layer: they stand first
  abbrev pub nodes_in : List (Node S V) → List (Node S V)
  nodes_in [] = []
  nodes_in (x ∷ xs) = if is_used x then x ∷ nodes_in xs else []

  -- the nodes, layer by layer: k layers of W places, and the end
  abbrev pub layers : ℕ → ℕ → List (Node S V) → List (List (Node S V))
  layers W zero xs = nodes_in (take 1 xs) ∷ []
  layers W (suc k) xs = nodes_in (take W xs) ∷ layers W k (drop W xs)

  -- the arcs of a layer, by the n doors; the labels as they stand
  abbrev pub arcs_in : ℕ → List (Node S V) → Layer
  arcs_in n = map (λ x. take n x.arcs.to)

  -- the labels of the way to each node
  abbrev pub downs_in : List (Node S V) → List (Option (Down S V))
  downs_in = map (λ x. Some x.label.down)

  -- and those of the way on from it
  abbrev pub ups_in : List (Node S V) → List (Option Up)
  ups_in = map (λ x. Some x.label.up)

  -- the arcs of all layers; the end has none
  abbrev pub arcs_of_layers : ℕ → List (List (Node S V)) → Net
  arcs_of_layers n [] = []
  arcs_of_layers n (N ∷ []) = []
  arcs_of_layers n (N ∷ M ∷ Ns) = arcs_in n N ∷ arcs_of_layers n (M ∷ Ns)

  -- the arcs of each place, as they stand
  abbrev pub arcs_read : List (Node S V) → List Arcs
  arcs_read = map (λ x. x.arcs)

-- ---- writing: arcs, with all labels worked out anew from them; an unused place is blank, with the starts of rule and tally
-- the targets by all sixteen doors: 0 past the last of the round
abbrev pub padded_targets : Outs → List ℕ
padded_targets nd = table 16 (λ k. slice_index nd k)

-- the arcs of place k of a layer
abbrev pub arcs_at : Layer → ℕ → Arcs
arcs_at L k = record { to = padded_targets (slice_index_or L k []) }

-- the arcs of all places, W to a layer, and of the end
abbrev pub laid_arcs : ℕ → Net → List Arcs
laid_arcs W [] = table 1 (arcs_at [])
laid_arcs W (L ∷ Ls) = table W (arcs_at L) ++ laid_arcs W Ls

module _ {S V : Type 0} (by : Setting S V) where
  -- the record at place k of a layer
  abbrev pub record_of_place : Layer → List (Option (Down S V)) → List (Option Up) → ℕ → Node S V
  record_of_place L labs us k = record {
    arcs = arcs_at L k;
    label = record { down = unwrap_or (slice_index_or labs k None) (blank_label by.rule by.tally); up = unwrap_or (slice_index_or us k None) no_up };
  }

  -- the upward label of the end, which has none in an empty diagram
  abbrev pub end_ups : List (Option (Down S V)) → List (Option Up)
  end_ups labs = if is_some (slice_index_or labs 0 None) then Some end_up ∷ [] else []

  -- from the layer with the labels labs on
  unfoldable pub labelled_from : List (Option (Down S V)) → Net → List (Node S V)
  unfolding ups labels_next
  labelled_from labs [] = record_of_place [] labs (end_ups labs) 0 ∷ []
  labelled_from labs (L ∷ Ls) = table by.width (record_of_place L labs (ups by labs (L ∷ Ls))) ++ labelled_from (labels_next by labs L (width Ls)) Ls

  -- all of them
  unfoldable pub labelled_records : Net → List (Node S V)
  unfolding labelled_from
  labelled_records Ls = labelled_from (first_labels by.rule by.tally) Ls
