-- Short words for the labels that are worked out from arcs, and for what calls and questions make of them. A device of the proofs.
use Rattle.std.proofs.Common.{ℕ, zero, suc, Bool, ◌&&◌, List, [], ◌∷◌, get_or, Some, None, Option, unwrap_or, cond, eqb}
use Rattle.rules.specs.Rules.{RuleSense}
use Rattle.tallies.specs.Tallies.{TallySense}
use Rattle.layers.specs.declared.node.Up.{Up}
use Rattle.layers.specs.Net.{Net, width, Layer}
use Rattle.layers.specs.Flow.{end_label}
use Rattle.layers.specs.Tidy.{tidied_arcs}
use Rattle.layers.specs.Calls.{LayerLabels, kept_arcs, keeps_all_arcs, arrivals, parted_arcs, in_arcs_agree}
use Rattle.layers.specs.Labels.{leg, is_barred, is_above_ceiling, is_past_late, ups, no_up, first_labels, blank_label, arrival_over, merge, labels_next, all_agree, first_arrival, differs_from_first}
use Rattle.layers.specs.Settings.{Setting}
use Rattle.layers.specs.declared.node.Down.{Down}

-- a label, or that of a place that is not in use
abbrev pub or_blank : {S V : Type 0} → RuleSense S → TallySense V → Option (Down S V) → Down S V
or_blank rule tally o = unwrap_or o (blank_label rule tally)

abbrev pub or_no_up : Option Up → Up
or_no_up o = unwrap_or o no_up

module _ {S V : Type 0} (by : Setting S V) where
  -- the labels at each layer of arcs, worked out downward from labs and upward from the end
  abbrev pub labels_from : List (Option (Down S V)) → Net → List (LayerLabels S V)
  labels_from labs [] = []
  labels_from labs (L ∷ Ls) = let labs' = labels_next by labs L (width Ls) in record { downs = labs; ups = ups by labs' Ls } ∷ labels_from labs' Ls

  -- those of layer d
  abbrev pub labels_at : ℕ → List (Option (Down S V)) → Net → List (Option (Down S V))
  labels_at zero labs Ls = labs
  labels_at (suc d) labs [] = []
  labels_at (suc d) labs (L ∷ Ls) = labels_at d (labels_next by labs L (width Ls)) Ls

  -- what a filter leaves by those labels
  abbrev pub kept : (ℕ → ℕ → ℕ → Option (Down S V) → Option Up → Bool) → ℕ → List (Option (Down S V)) → Net → Net
  kept goes i labs Ls = kept_arcs goes i Ls (labels_from labs Ls)

  abbrev pub sweeps : ℕ → List (Option (Down S V)) → Net → Net
  sweeps = kept (is_barred by.round by.rule)

  unfoldable pub sweep : Net → Net
  unfolding kept_arcs leg tidied_arcs
  sweep Ls = tidied_arcs (sweeps 0 (first_labels by.rule by.tally) Ls)

  abbrev pub cuts : V → ℕ → List (Option (Down S V)) → Net → Net
  cuts c = kept (is_above_ceiling by.round by.tally c)

  unfoldable pub cut : V → Net → Net
  unfolding kept_arcs leg tidied_arcs
  cut c Ls = tidied_arcs (cuts c 0 (first_labels by.rule by.tally) Ls)

  abbrev pub backsweeps : ℕ → List (Option (Down S V)) → Net → Net
  backsweeps = kept (is_past_late by.round)

  unfoldable pub backsweep : Net → Net
  unfolding kept_arcs leg tidied_arcs
  backsweep Ls = tidied_arcs (backsweeps 0 (first_labels by.rule by.tally) Ls)

  -- d is the layer less one, a the place of the node
  abbrev pub part_at : ℕ → ℕ → List (Option (Down S V)) → Net → Net
  part_at d a labs Ls = parted_arcs by d a (labels_at d labs Ls) Ls

  -- where parting the node at place a of a layer of m moves the arc by door j from place u to place b, in the layer before with the labels labs
  abbrev pub moved : ℕ → List (Option (Down S V)) → Layer → ℕ → ℕ → ℕ → ℕ → ℕ
  moved a labs L m u j b = cond (eqb b a && differs_from_first by (first_arrival (arrivals by labs L a)) (get_or labs u None) j) (suc m) (suc b)

  -- the in-arcs of the node at place a of layer d + 1 agree
  abbrev pub one_group : ℕ → ℕ → List (Option (Down S V)) → Net → Bool
  one_group d a labs Ls = all_agree by.rule (arrivals by (labels_at d labs Ls) (get_or Ls d []) a)

  -- ---- the questions
  abbrev pub valueO : Option (Down S V) → Option V
  valueO None = None
  valueO (Some l) = Some l.value

  unfoldable pub bound : Net → Option V
  unfolding end_label arrival_over merge
  bound Ls = valueO (end_label (arrival_over by) (merge by.rule by.tally) (first_labels by.rule by.tally) Ls)

  abbrev pub agrees : List (Option (Down S V)) → Net → Bool
  agrees labs Ls = in_arcs_agree by Ls (labels_from labs Ls)

  abbrev pub quiet : ℕ → List (Option (Down S V)) → Net → Bool
  quiet i labs Ls = keeps_all_arcs (is_barred by.round by.rule) i Ls (labels_from labs Ls)

  unfoldable pub settles : ℕ → List (Option (Down S V)) → Net → Bool
  unfolding in_arcs_agree keeps_all_arcs leg
  settles i labs Ls = agrees labs Ls && quiet i labs Ls

  unfoldable pub settled : Net → Bool
  unfolding settles
  settled Ls = settles 0 (first_labels by.rule by.tally) Ls
