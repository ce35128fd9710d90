-- Sweep, cut and backsweep as the code does them, on any list: arcs are taken out by the labels that stand, then the list is tidied and labelled anew.
-- Nobody has to believe these steps: the facts at the end say, in the definitions of the calls, what they come to on the records of a diagram.
use Rattle.std.specs.Prelude.{◌≡◌, ℕ, ◌*◌, Bool, true, if◌then◌else◌, List, length, take, Option, ◌==◌, nat_le}
use Rattle.std.specs.List.{list_all}
use Rattle.round.specs.declared.table.Round.{Round}
use Rattle.round.specs.Clock.{latest_finish}
use Rattle.rules.specs.Rules.{RuleSense}
use Rattle.layers.specs.declared.node.Node.{Node}
use Rattle.layers.specs.declared.node.Down.{Down}
use Rattle.layers.specs.declared.node.Up.{Up}
use Rattle.layers.specs.Settings.{Setting}
use Rattle.layers.specs.Labels.{leg, is_barred, is_above_ceiling, is_past_late}
use Rattle.layers.specs.Tidy.{tidied_arcs}
use Rattle.layers.specs.Calls.{arcs, labels, keeps_all_arcs, kept_arcs, records_with, arcs_lost, after_sweep, sweep_answer, after_cut, cut_answer, after_backsweep, backsweep_answer}
use Rattle.layers.specs.Shape.{IsShaped, IsTimely}
use Rattle.labels.specs.Passes.{fits, blank_node, relabelled_used, relabelled}
use Rattle.tidying.specs.Counted.{arcs_within}
use Rattle.tidying.specs.Tidied.{tidied, first_mark}
use Rattle.filter.specs.Kept.{kept_from}

-- no finish is above what the clock allows after 15 doors
abbrev pub timely : {S V : Type 0} → List (Node S V) → Bool
timely = list_all (λ x. nat_le x.label.down.finish (latest_finish 15))

-- arcs of a diagram of n doors and width W
unfoldable pub arc_count : {S V : Type 0} → ℕ → ℕ → List (Node S V) → ℕ
arc_count n W xs = arcs_within (take (n * W) xs)

-- no arc goes: as many are left
unfoldable pub none_goes : {S V : Type 0} → (ℕ → ℕ → ℕ → Option (Down S V) → Option Up → Bool) → ℕ → ℕ → List (Node S V) → Bool
unfolding arc_count kept_from
none_goes goes n W xs = arc_count n W (kept_from goes W 0 n xs) == arc_count n W xs

-- a call has left the records ys and answered m, as its definition says; and ys are again the records of a diagram
pub record Done {S V A : Type 0} (n W : ℕ) (defined ys : List (Node S V)) (answered m : A) : Type 0 where
  pub records : ys ≡ defined
  pub answer : m ≡ answered
  pub shaped : IsShaped n W ys
  pub timely : IsTimely n W ys

module _ {S V : Type 0} (by : Setting S V) where
  -- the arcs that go taken out, and the list tidied; as it is if none goes
  unfoldable pub thinned : (ℕ → ℕ → ℕ → Option (Down S V) → Option Up → Bool) → List (Node S V) → List (Node S V)
  unfolding none_goes kept_from tidied
  thinned goes xs =
      if none_goes goes by.round.n by.width xs then xs
      else tidied by.width (blank_node by.rule by.tally) by.round.n first_mark (kept_from goes by.width 0 by.round.n xs)

  -- labels anew: all; or, of a list whose labels stood until so many arcs went, those of the nodes, if any went
  abbrev pub anew : Bool → ℕ → List (Node S V) → List (Node S V)
  anew labelled gone xs = if labelled then (if gone == 0 then xs else relabelled_used by xs) else relabelled by xs

  -- a filter: which arcs go
  unfoldable pub filter_steps : (ℕ → ℕ → ℕ → Option (Down S V) → Option Up → Bool) → List (Node S V) → List (Node S V)
  unfolding thinned relabelled
  filter_steps goes xs = relabelled by (thinned goes xs)

  -- of a list whose labels stand: if none goes, it stays as it is
  unfoldable pub filter_labelled_steps : (ℕ → ℕ → ℕ → Option (Down S V) → Option Up → Bool) → List (Node S V) → List (Node S V)
  unfolding none_goes thinned relabelled_used
  filter_labelled_steps goes xs = if none_goes goes by.round.n by.width xs then xs else relabelled_used by (thinned goes xs)

  unfoldable pub sweep_steps : List (Node S V) → List (Node S V)
  unfolding filter_steps leg
  sweep_steps = filter_steps (is_barred by.round by.rule)

  unfoldable pub sweep_labelled_steps : List (Node S V) → List (Node S V)
  unfolding filter_labelled_steps leg
  sweep_labelled_steps = filter_labelled_steps (is_barred by.round by.rule)

  unfoldable pub cut_steps : V → List (Node S V) → List (Node S V)
  unfolding filter_steps leg
  cut_steps c = filter_steps (is_above_ceiling by.round by.tally c)

  unfoldable pub backsweep_steps : List (Node S V) → List (Node S V)
  unfolding filter_steps leg
  backsweep_steps = filter_steps (is_past_late by.round)

  -- the labels are those that this setting gives
  abbrev pub IsLabelled : List (Node S V) → Type 0
  IsLabelled xs = records_with by xs (arcs by.round.n by.width xs) ≡ xs

  -- what a filter leaves of the records of a diagram, by its definition
  abbrev pub after_filter : (ℕ → ℕ → ℕ → Option (Down S V) → Option Up → Bool) → List (Node S V) → List (Node S V)
  after_filter goes xs = records_with by xs (tidied_arcs (kept_arcs goes 0 (arcs by.round.n by.width xs) (labels by.round.n by.width xs)))

  abbrev pub FilterDone : (ℕ → ℕ → ℕ → Option (Down S V) → Option Up → Bool) → List (Node S V) → List (Node S V) → ℕ → Type 0
  FilterDone goes xs ys m =
      IsShaped by.round.n by.width xs → Done by.round.n by.width (after_filter goes xs) ys (arcs_lost by.round.n by.width xs (after_filter goes xs)) m

  -- on the records of a diagram: what the definitions of the calls say
  abbrev pub SweepDone : List (Node S V) → List (Node S V) → ℕ → Type 0
  SweepDone xs ys m =
      fits by.round.n by.width (length xs) ≡ true → IsShaped by.round.n by.width xs
      → Done by.round.n by.width (after_sweep by xs) ys (sweep_answer by xs) m

  abbrev pub SweepLabelledDone : List (Node S V) → List (Node S V) → ℕ → Type 0
  SweepLabelledDone xs ys m =
      fits by.round.n by.width (length xs) ≡ true → IsShaped by.round.n by.width xs → IsLabelled xs
      → Done by.round.n by.width (after_sweep by xs) ys (sweep_answer by xs) m

  abbrev pub CutDone : V → List (Node S V) → List (Node S V) → ℕ → Type 0
  CutDone c xs ys m =
      fits by.round.n by.width (length xs) ≡ true → IsShaped by.round.n by.width xs → IsTimely by.round.n by.width xs
      → Done by.round.n by.width (after_cut by c xs) ys (cut_answer by c xs) m

  abbrev pub BacksweepDone : List (Node S V) → List (Node S V) → ℕ → Type 0
  BacksweepDone xs ys m =
      fits by.round.n by.width (length xs) ≡ true → IsShaped by.round.n by.width xs
      → Done by.round.n by.width (after_backsweep by xs) ys (backsweep_answer by xs) m

module _ {S V : Type 0} (r : Round) (rule : RuleSense S) (W : ℕ) where
  -- no arc would be taken out
  unfoldable pub quiet_steps : List (Node S V) → Bool
  unfolding none_goes leg
  quiet_steps = none_goes (is_barred r rule) r.n W

  -- on the records of a diagram: no arc is one that a sweep takes out
  abbrev pub QuietDone : List (Node S V) → Bool → Type 0
  QuietDone xs b = fits r.n W (length xs) ≡ true → IsShaped r.n W xs → b ≡ keeps_all_arcs (is_barred r rule) 0 (arcs r.n W xs) (labels r.n W xs)
