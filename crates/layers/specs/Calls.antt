-- The calls, on the lent list of records. Each goes by the labels as they stand in the records, whatever rule or tally wrote them,
-- and ends with all labels worked out anew with the rule and the tally of this call. Places after the end's are never altered.
use Rattle.std.specs.Prelude.{ℕ, zero, suc, ◌+◌, ◌-◌, ◌*◌, min, max, Bool, true, false, if◌then◌else◌, not, ◌&&◌, ◌||◌, List, [], ◌∷◌, ◌++◌, length, drop, Some, None, Option, Ok, Err, Result, is_ok, ◌==◌, nat_le, nat_lt, slice_index_or}
use Rattle.layers.specs.declared.call.Answer.TheVariants as answer
use Rattle.layers.specs.declared.call.Answer as calls
use Rattle.layers.specs.declared.call.Call.{Call}
use Rattle.layers.specs.declared.call.Call.TheVariants.{Sweep, Part, Join, Cut, Refine, Backsweep}
use Rattle.layers.specs.declared.node.Node.{Node}
use Rattle.layers.specs.declared.node.Down.{Down}
use Rattle.layers.specs.declared.node.Up.{Up}
use Rattle.layers.specs.declared.refined.Refined.{Refined}
use Rattle.layers.specs.declared.refined.Refined.TheVariants.{Whole, Full}
use Rattle.layers.specs.declared.refusal.Refusal.{Refusal}
use Rattle.layers.specs.declared.refusal.Refusal.TheVariants.{Width, Short, NoLayer, NoNode, NoDoor, OneGroup, LayerFull, SameNode, Clash, SameDoor, WrongLength}
use Rattle.std.specs.List.{list_all}
use Rattle.doors.specs.Orders.{is_door}
use Rattle.layers.specs.Net.{Layer, Net, node, is_path_from, redirect, count_arcs, every_arc, has_path_with}
use Rattle.layers.specs.Flow.{arrivals_at}
use Rattle.layers.specs.Tidy.{tidied_arcs}
use Rattle.layers.specs.Join.{clash, joined_arcs}
use Rattle.layers.specs.Settings.{Setting}
use Rattle.std.specs.Int.Count.{ones}
use Rattle.layers.specs.Labels.{leg, arrival_over, opening_arcs, is_barred, is_above_ceiling, is_past_late, agree, all_agree, first_arrival, differs_from_first}
use Rattle.layers.specs.Records.{layers, arcs_in, downs_in, ups_in, arcs_of_layers, labelled_records}

-- Q holds of each ceiling that the calls cut at
abbrev pub EachCut : {V : Type 0} → (V → Type 0) → List (Call V) → Type 0
EachCut Q [] = Unit {0}
EachCut Q (Sweep ∷ cs) = EachCut Q cs
EachCut Q (Part i a ∷ cs) = EachCut Q cs
EachCut Q (Join i a b ∷ cs) = EachCut Q cs
EachCut Q (Cut c ∷ cs) = Q c × EachCut Q cs
EachCut Q (Refine ∷ cs) = EachCut Q cs
EachCut Q (Backsweep ∷ cs) = EachCut Q cs

-- the labels at a layer of arcs: those of its nodes, and the upward ones of the nodes that the arcs lead to
pub record LayerLabels (S V : Type 0) : Type 0 where
  pub downs : List (Option (Down S V))
  pub ups : List (Option Up)

-- layer by layer, as they stand at these nodes; no arc leaves the end
abbrev pub labels_in : {S V : Type 0} → List (List (Node S V)) → List (LayerLabels S V)
labels_in [] = []
labels_in (N ∷ []) = []
labels_in (N ∷ M ∷ Ns) = record { downs = downs_in N; ups = ups_in M } ∷ labels_in (M ∷ Ns)

-- the value of the first of these nodes
abbrev pub value_in : {S V : Type 0} → List (Node S V) → Option V
value_in [] = None
value_in (x ∷ xs) = Some x.label.down.value

-- ---- answers: a call that is done, or why it is refused
abbrev pub Outcome : Type 0
Outcome = Result (Unit {0}) Refusal

-- opening a diagram of n doors and width W on so many records: refused for a width other than 1 to 128, and for too few records
abbrev pub open_answer : ℕ → ℕ → ℕ → Outcome
open_answer n W long = if nat_lt W 1 || nat_lt 128 W then Err Width else if nat_lt long (n * W + 1) then Err Short else Ok tt

-- i or j is no door of a round of n doors
abbrev pub bad_door : ℕ → ℕ → ℕ → Bool
bad_door n i j = nat_lt i 1 || (nat_lt n i || (nat_lt j 1 || nat_lt n j))

-- ---- what needs neither rule nor tally: a diagram of n doors and width W in the records xs
module _ {S V : Type 0} (n W : ℕ) where
  -- the nodes that stand, by layers
  abbrev pub nodes : List (Node S V) → List (List (Node S V))
  nodes xs = layers W n xs

  -- those of layer i
  abbrev pub layer : ℕ → List (Node S V) → List (Node S V)
  layer i xs = slice_index_or (nodes xs) i []

  -- the arcs of all layers
  abbrev pub arcs : List (Node S V) → Net
  arcs xs = arcs_of_layers n (nodes xs)

  -- the labels at each layer of arcs, as they stand
  abbrev pub labels : List (Node S V) → List (LayerLabels S V)
  labels xs = labels_in (nodes xs)

  -- how many arcs fewer there are in ys than in xs
  unfoldable pub arcs_lost : List (Node S V) → List (Node S V) → ℕ
  unfolding count_arcs
  arcs_lost xs ys = count_arcs (arcs xs) - count_arcs (arcs ys)

  -- bound: the end's value, or none if no path leads to the end
  unfoldable pub bound : List (Node S V) → Option V
  bound xs = value_in (layer n xs)

  -- must i j: yes if no path has j at an earlier place than i
  unfoldable pub must : ℕ → ℕ → List (Node S V) → Bool
  unfolding has_path_with
  must i j xs = not (has_path_with (arcs xs) 0 (j ∷ i ∷ []))

  -- what must(i, j) answers: refused if either is no door, and if they are one
  abbrev pub must_answer : ℕ → ℕ → List (Node S V) → Result Bool Refusal
  must_answer i j xs = if bad_door n i j then Err NoDoor else if i == j then Err SameDoor else Ok (must i j xs)

  -- holds w: yes if the doors w, in this order, are read along a path
  unfoldable pub holds : List ℕ → List (Node S V) → Bool
  unfolding is_path_from
  holds w xs = is_path_from (arcs xs) 0 w

  -- what holds(w) answers: refused if w is not n long, and else if one of its numbers is no door of the round
  abbrev pub holds_answer : List ℕ → List (Node S V) → Result Bool Refusal
  holds_answer w xs =
      if not (length w == n) then Err WrongLength
      else if not (list_all (is_door n) w) then Err NoDoor
      else Ok (holds w xs)

  -- what the reading form hands out as layer i: the records of its nodes; refused if i is above n
  abbrev pub layer_answer : ℕ → List (Node S V) → Result (List (Node S V)) Refusal
  layer_answer i xs = if nat_lt n i then Err NoLayer else Ok (layer i xs)

-- ---- a filter, with the labels that are given: `goes` says which arcs go. It is told the layer, how many layers of arcs there are from
-- it to the end, the door, the label of the source and the upward label of the target
module _ {S V : Type 0} (goes : ℕ → ℕ → ℕ → Option (Down S V) → Option Up → Bool) where
  -- the arcs that it leaves, before tidying: layer by layer from layer i on
  unfoldable pub kept_arcs : ℕ → Net → List (LayerLabels S V) → Net
  unfolding redirect
  kept_arcs i [] labs = []
  kept_arcs i (L ∷ Ls) [] = L ∷ Ls
  kept_arcs i (L ∷ Ls) (x ∷ labs) =
      redirect (λ a j b. if goes i (suc (length Ls)) j (slice_index_or x.downs a None) (slice_index_or x.ups b None) then 0 else suc b) L
      ∷ kept_arcs (suc i) Ls labs

  -- no arc goes
  unfoldable pub keeps_all_arcs : ℕ → Net → List (LayerLabels S V) → Bool
  unfolding every_arc
  keeps_all_arcs i [] labs = true
  keeps_all_arcs i (L ∷ Ls) [] = true
  keeps_all_arcs i (L ∷ Ls) (x ∷ labs) =
      every_arc (λ a j b. not (goes i (suc (length Ls)) j (slice_index_or x.downs a None) (slice_index_or x.ups b None))) 0 L
      && keeps_all_arcs (suc i) Ls labs

-- ---- part and its test, with the labels that are given
module _ {S V : Type 0} (by : Setting S V) where
  -- what arrives at the node at place a of the next layer, from a layer with the labels labs
  abbrev pub arrivals : List (Option (Down S V)) → Layer → ℕ → List (Down S V)
  arrivals labs L a = arrivals_at (arrival_over by) a labs L

  -- the arcs of the layers d, d + 1, .. after parting the node at place a of layer d + 1, where labs are the labels of layer d:
  -- the in-arcs that differ from the first go to a new last node of that layer, with the same out-arcs
  unfoldable pub parted_arcs : ℕ → ℕ → List (Option (Down S V)) → Net → Net
  unfolding redirect agree arrival_over arrivals_at
  parted_arcs d a labs [] = []
  parted_arcs zero a labs (L ∷ []) = L ∷ []
  parted_arcs zero a labs (L ∷ M ∷ Ls) =
      let x = first_arrival (arrivals labs L a) in
      redirect (λ u j b. if b == a && differs_from_first by x (slice_index_or labs u None) j then suc (length M) else suc b) L ∷ (M ++ (node M a ∷ [])) ∷ Ls
  parted_arcs (suc d) a labs (L ∷ Ls) = L ∷ parted_arcs d a labs Ls

  -- the in-arcs of the nodes at places below b of the next layer agree
  unfoldable pub places_agree : List (Option (Down S V)) → Layer → ℕ → Bool
  unfolding all_agree arrival_over arrivals_at
  places_agree labs L zero = true
  places_agree labs L (suc b) = all_agree by.rule (arrivals labs L b) && places_agree labs L b

  -- the in-arcs of each node agree, the end apart
  unfoldable pub in_arcs_agree : Net → List (LayerLabels S V) → Bool
  unfolding places_agree
  in_arcs_agree [] labs = true
  in_arcs_agree (L ∷ []) labs = true
  in_arcs_agree (L ∷ M ∷ Ls) [] = true
  in_arcs_agree (L ∷ M ∷ Ls) (x ∷ labs) = places_agree x.downs L (length M) && in_arcs_agree (M ∷ Ls) labs

-- ---- on the lent list
module _ {S V : Type 0} (by : Setting S V) where
  -- the records of a diagram, or of one layer
  abbrev pub Recs : Type 0
  Recs = List (Node S V)

  -- the records of these arcs, labelled anew; what stands after the end stays
  unfoldable pub records_with : Recs → Net → Recs
  unfolding labelled_records
  records_with xs Ls = labelled_records by Ls ++ drop (by.round.n * by.width + 1) xs

  -- open
  unfoldable pub after_open : Recs → Recs
  unfolding records_with opening_arcs
  after_open xs = records_with xs (opening_arcs by.round.n)

  -- sweep
  unfoldable pub after_sweep : Recs → Recs
  unfolding records_with tidied_arcs kept_arcs ones leg
  after_sweep xs = records_with xs (tidied_arcs (kept_arcs (is_barred by.round by.rule) 0 (arcs by.round.n by.width xs) (labels by.round.n by.width xs)))

  -- how many arcs it took out
  abbrev pub sweep_answer : Recs → ℕ
  sweep_answer xs = arcs_lost by.round.n by.width xs (after_sweep xs)

  -- cut at the ceiling c
  unfoldable pub after_cut : V → Recs → Recs
  unfolding records_with tidied_arcs kept_arcs ones leg
  after_cut c xs = records_with xs (tidied_arcs (kept_arcs (is_above_ceiling by.round by.tally c) 0 (arcs by.round.n by.width xs) (labels by.round.n by.width xs)))

  -- how many arcs it took out
  abbrev pub cut_answer : V → Recs → ℕ
  cut_answer c xs = arcs_lost by.round.n by.width xs (after_cut c xs)

  -- backsweep
  unfoldable pub after_backsweep : Recs → Recs
  unfolding records_with tidied_arcs kept_arcs leg
  after_backsweep xs = records_with xs (tidied_arcs (kept_arcs (is_past_late by.round) 0 (arcs by.round.n by.width xs) (labels by.round.n by.width xs)))

  -- how many arcs it took out
  abbrev pub backsweep_answer : Recs → ℕ
  backsweep_answer xs = arcs_lost by.round.n by.width xs (after_backsweep xs)

  -- how many nodes layer i has
  abbrev pub count_of : ℕ → Recs → ℕ
  count_of i xs = length (layer by.round.n by.width i xs)

  -- i is no layer between the first node and the end
  abbrev pub bad_layer : ℕ → Bool
  bad_layer i = nat_lt i 1 || nat_le by.round.n i

  -- layer i has no node a
  abbrev pub bad_node : ℕ → ℕ → Recs → Bool
  bad_node i a xs = nat_lt a 1 || nat_lt (count_of i xs) a

  -- layer i has no place left
  abbrev pub is_full : ℕ → Recs → Bool
  is_full i xs = nat_le by.width (count_of i xs)

  -- the labels of the layer before layer i
  abbrev pub downs_before : ℕ → Recs → List (Option (Down S V))
  downs_before i xs = downs_in (layer by.round.n by.width (i - 1) xs)

  -- the arcs of that layer
  abbrev pub arcs_before : ℕ → Recs → Layer
  arcs_before i xs = arcs_in by.round.n (layer by.round.n by.width (i - 1) xs)

  -- the in-arcs of node a of layer i agree: parting it would leave one group empty
  unfoldable pub one_group : ℕ → ℕ → Recs → Bool
  unfolding all_agree arrival_over arrivals_at
  one_group i a xs = all_agree by.rule (arrivals by (downs_before i xs) (arcs_before i xs) (a - 1))

  -- part node a of layer i: done, or refused, which leaves the records as they are
  unfoldable pub part_answer : ℕ → ℕ → Recs → Outcome
  unfolding one_group
  part_answer i a xs =
      if bad_layer i then Err NoLayer
      else if bad_node i a xs then Err NoNode
      else if one_group i a xs then Err OneGroup
      else if is_full i xs then Err LayerFull
      else Ok tt

  -- what it does if it is not refused
  unfoldable pub parted_records : ℕ → ℕ → Recs → Recs
  unfolding records_with parted_arcs
  parted_records i a xs = records_with xs (parted_arcs by (i - 1) (a - 1) (downs_before i xs) (arcs by.round.n by.width xs))

  -- part
  unfoldable pub after_part : ℕ → ℕ → Recs → Recs
  unfolding part_answer parted_records
  after_part i a xs = if is_ok (part_answer i a xs) then parted_records i a xs else xs

  -- join nodes a and b of layer i: likewise; refused if they are one node, and if by some door they have arcs to two nodes
  unfoldable pub join_answer : ℕ → ℕ → ℕ → Recs → Outcome
  unfolding clash
  join_answer i a b xs =
      let L = slice_index_or (arcs by.round.n by.width xs) i [] in
      if bad_layer i then Err NoLayer
      else if bad_node i a xs || bad_node i b xs then Err NoNode
      else if a == b then Err SameNode
      else if clash (node L (min a b - 1)) (node L (max a b - 1)) then Err Clash
      else Ok tt

  -- join: the out-arcs of both, at the lower of the two places
  unfoldable pub after_join : ℕ → ℕ → ℕ → Recs → Recs
  unfolding join_answer records_with joined_arcs
  after_join i a b xs =
      if is_ok (join_answer i a b xs) then records_with xs (joined_arcs (i - 1) (min a b - 1) (max a b - 1) (arcs by.round.n by.width xs)) else xs

  -- refine, in one layer: parts nodes a, a + 1, .. of layer i, k at most, each that is not of one group; yes if one is left since the
  -- layer is full
  unfoldable pub parts_of_layer : ℕ → ℕ → ℕ → Recs → Bool × Recs
  unfolding one_group parted_records
  parts_of_layer zero i a xs = (false, xs)
  parts_of_layer (suc k) i a xs =
      if nat_lt (count_of i xs) a then (false, xs)
      else if one_group i a xs then parts_of_layer k i (suc a) xs
      else if is_full i xs then (true, xs)
      else parts_of_layer k i (suc a) (parted_records i a xs)

  -- refine, in k layers from i on: a sweep, then the parts of the layer; up to a layer that is full, or whole if none is
  unfoldable pub refinement_from : ℕ → ℕ → Recs → Refined × Recs
  unfolding after_sweep parts_of_layer
  refinement_from zero i xs = (Whole, xs)
  refinement_from (suc k) i xs = let p = parts_of_layer by.width i 1 (after_sweep xs) in if p.0 then (Full i, p.1) else refinement_from k (suc i) p.1

  -- sweeps until one answers 0, k at most
  unfoldable pub after_sweeps : ℕ → Recs → Recs
  unfolding after_sweep arcs_lost
  after_sweeps zero xs = xs
  after_sweeps (suc k) xs = if sweep_answer xs == 0 then after_sweep xs else after_sweeps k (after_sweep xs)

  -- refine: its answer, and what it leaves. Each of the sweeps at its end but the last takes out an arc, so there are enough of them
  unfoldable pub refinement : Recs → Refined × Recs
  unfolding refinement_from after_sweeps count_arcs
  refinement xs = let p = refinement_from (by.round.n - 1) 1 xs in (p.0, after_sweeps (suc (count_arcs (arcs by.round.n by.width p.1))) p.1)

  -- whole, or the layer that is full
  abbrev pub refine_answer : Recs → Refined
  refine_answer xs = (refinement xs).0

  -- the records that it leaves
  abbrev pub after_refine : Recs → Recs
  after_refine xs = (refinement xs).1

  -- ---- a list of calls
  -- what a call leaves of the records
  unfoldable pub after_call : Call V → Recs → Recs
  unfolding after_sweep after_part after_join after_cut after_backsweep refinement
  after_call Sweep xs = after_sweep xs
  after_call (Part i a) xs = after_part i a xs
  after_call (Join i a b) xs = after_join i a b xs
  after_call (Cut c) xs = after_cut c xs
  after_call Refine xs = after_refine xs
  after_call Backsweep xs = after_backsweep xs

  -- what it answers
  unfoldable pub answer_of : Call V → Recs → calls.Answer
  unfolding after_sweep part_answer join_answer after_cut after_backsweep refinement arcs_lost
  answer_of Sweep xs = answer.Removed (sweep_answer xs)
  answer_of (Part i a) xs = answer.Done (part_answer i a xs)
  answer_of (Join i a b) xs = answer.Done (join_answer i a b xs)
  answer_of (Cut c) xs = answer.Removed (cut_answer c xs)
  answer_of Refine xs = answer.Refined (refine_answer xs)
  answer_of Backsweep xs = answer.Removed (backsweep_answer xs)

  -- call after call
  abbrev pub after_calls : List (Call V) → Recs → Recs
  after_calls [] xs = xs
  after_calls (c ∷ cs) xs = after_calls cs (after_call c xs)

  -- settled: the in-arcs of each node agree, and no arc is one that a sweep takes out
  unfoldable pub is_settled : Recs → Bool
  unfolding in_arcs_agree keeps_all_arcs ones leg
  is_settled xs =
      in_arcs_agree by (arcs by.round.n by.width xs) (labels by.round.n by.width xs)
      && keeps_all_arcs (is_barred by.round by.rule) 0 (arcs by.round.n by.width xs) (labels by.round.n by.width xs)
