-- On the records of a diagram the steps of sweep and cut come to their definitions.
use Rattle.std.proofs.Common.{◌≡◌, ℕ, Bool, false, if◌then◌else◌, ◌-◌, ◌*◌, ◌≤◌, true, eqb, List, ◌++◌, map, length, take, drop, sym, refl, ap, ◌∙◌, subst, ap₂, arith}
use Rattle.std.proofs.lemmas.Bool.{cond_both, cond-false}
use Rattle.std.proofs.lemmas.List.{drop-drop}
use Rattle.round.specs.declared.table.Round.{Round}
use Rattle.layers.specs.Lawful.{IsLawful}
use Rattle.layers.specs.declared.node.Node.{Node}
use Rattle.layers.specs.Net.{Net, count_arcs}
use Rattle.layers.specs.Tidy.{tidied_arcs}
use Rattle.layers.specs.Records.{labelled_records}
use Rattle.layers.specs.Settings.{Setting}
use Rattle.layers.specs.Calls.{arcs, labels, kept_arcs, keeps_all_arcs, records_with, arcs_lost, after_sweep}
use Rattle.layers.specs.Labels.{is_barred}
use Rattle.layers.specs.Shape.{IsShaped, IsTimely}
use Rattle.layers.proofs.Counts.{all-kept, kept-same}
use Rattle.layers.proofs.Proper.{tied-ranged, RangedAll, Less, kept-less, proper-kept}
use Rattle.layers.proofs.Shaped.{shaped-proper, relaid-shaped, ended-one, relaid-timely}
use Rattle.labels.specs.Passes.{fits, blank_node, unused_label, relabelled_used, relabelled}
use Rattle.labels.proofs.Laying.{Arranged, Good, has-ready, relabelled-lawful, used-lawful}
use Rattle.labels.proofs.Places.{Ready}
use Rattle.labels.proofs.Rooms.{Roomed, room-facts}
use Rattle.labels.proofs.Shaped_arranged.{shaped-arranged, good-net}
use Rattle.tidying.specs.Tidied.{first_mark}
use Rattle.tidying.specs.Tidied.{tidied as tidiedFlat}
use Rattle.tidying.proofs.TidyNet.{Standing, Blanks, tidied-net}
use Rattle.filter.specs.Steps.{IsLabelled, Done, arc_count, none_goes, thinned, filter_steps, filter_labelled_steps, sweep_steps, after_filter}
use Rattle.filter.specs.Kept.{kept_from}
use Rattle.filter.proofs.CountNet.{arc-count}
use Rattle.filter.proofs.KeptNet.{Goes, kept-arranged, kept-later}
use Rattle.filter.proofs.Places.{kept-blanks, ready-blanks}

module _ {S V : Type 0} (r : Round) (W : ℕ) (xs : List (Node S V)) (fit : fits r.n W (length xs) ≡ true) (s : IsShaped r.n W xs) where
  abbrev pub D : Net
  D = arcs r.n W xs

  pub room : Roomed r.n W (length xs)
  room = room-facts r.n W (length xs) fit

  pub proper : IsLawful r.n W D
  proper = shaped-proper r W xs s

  ranged : RangedAll D
  ranged = tied-ranged D proper.tied

  pub arranged : Arranged W D xs
  arranged = shaped-arranged r W xs room.enough s

  pub shaped-count : arc_count r.n W xs ≡ count_arcs D
  shaped-count = arc-count W r.n D xs proper.deep (good-net r.n W D r.most proper.even proper.roomy ranged) arranged

  -- the arcs that a filter leaves, in the net and in the list
  module _ (goes : Goes S V) where
    abbrev pub Ms : Net
    Ms = kept_arcs goes 0 D (labels r.n W xs)

    pub less : Less r.n W D Ms
    less = kept-less r.n W goes 0 D (labels r.n W xs)

    pub good-left : Good W Ms
    good-left = good-net r.n W Ms r.most (less.even proper.even) (less.roomy proper.roomy) (less.ranged ranged)

    pub left-arranged : Arranged W Ms (kept_from goes W 0 r.n xs) × Standing W Ms (kept_from goes W 0 r.n xs)
    left-arranged = kept-arranged r.n goes W 0 r.n xs arranged ranged (ended-one r.n W xs s.ended)

    -- as many arcs stay exactly when none goes
    pub none-words : none_goes goes r.n W xs ≡ keeps_all_arcs goes 0 D (labels r.n W xs)
    unfolding none_goes
    none-words = ap₂ eqb (arc-count W r.n Ms (kept_from goes W 0 r.n xs) (less.deep ∙ proper.deep) good-left left-arranged.0) shaped-count ∙ kept-same goes 0 D (labels r.n W xs)

-- the answer of a call that leaves the records ys
pub fewer-words : {S V : Type 0} (r : Round) (W : ℕ) (xs ys : List (Node S V)) → fits r.n W (length xs) ≡ true → length ys ≡ length xs → IsShaped r.n W xs → IsShaped r.n W ys → arc_count r.n W xs - arc_count r.n W ys ≡ arcs_lost r.n W xs ys
unfolding arcs_lost
fewer-words r W xs ys fit long s t = ap₂ ◌-◌ (shaped-count r W xs fit s) (shaped-count r W ys (ap (fits r.n W) long ∙ fit) t)

module _ {S V : Type 0} (by : Setting S V) (xs : List (Node S V)) (fit : fits by.round.n by.width (length xs) ≡ true) (s : IsShaped by.round.n by.width xs) (goes : Goes S V) where
  abbrev n : ℕ
  n = by.round.n

  abbrev W : ℕ
  W = by.width

  abbrev M : Net
  M = Ms by.round W xs fit s goes

  abbrev z : Node S V
  z = blank_node by.rule by.tally

  abbrev Kept : List (Node S V)
  Kept = kept_from goes W 0 n xs

  abbrev Left : List (Node S V)
  Left = tidiedFlat W z n first_mark Kept

  inside : n * W ≤ length xs
  inside = let q = (room by.round W xs fit s).enough in omega arith

  is-proper : IsLawful n W (D by.round W xs fit s)
  is-proper = proper by.round W xs fit s

  tidy-proper : IsLawful n W (tidied_arcs M)
  tidy-proper = proper-kept by (room by.round W xs fit s).low goes (D by.round W xs fit s) (labels n W xs) is-proper

  -- the list tidied: the arcs, blank places if there were, and all after the end
  left-net : Arranged W (tidied_arcs M) Left × (Blanks W z n Kept → Ready by (tidied_arcs M) Left)
  left-net =
      let l = less by.round W xs fit s goes in
      let a = left-arranged by.round W xs fit s goes in
      tidied-net by n M Kept (room by.round W xs fit s).high (l.deep ∙ is-proper.deep) (l.wide ∙ is-proper.one_first) (good-left by.round W xs fit s goes) a.0 a.1

  laid-words : records_with by Left (tidied_arcs M) ≡ after_filter by goes xs
  unfolding records_with
  laid-words = ap (λ (ws : List (Node S V)). labelled_records by (tidied_arcs M) ++ ws) (sym (drop-drop 1 (n * W) Left) ∙ ap (drop 1) (kept-later goes n W z xs inside) ∙ drop-drop 1 (n * W) xs)

  -- if none goes there is nothing to tidy
  same-words : none_goes goes n W xs ≡ true → records_with by xs (D by.round W xs fit s) ≡ after_filter by goes xs
  same-words e = ap (records_with by xs) (sym (ap tidied_arcs (all-kept goes 0 (D by.round W xs fit s) (labels n W xs) (sym (none-words by.round W xs fit s goes) ∙ e)) ∙ s.tidy))

  filter-words : filter_steps by goes xs ≡ after_filter by goes xs
  unfolding filter_steps thinned
  filter-words = cond_both (none_goes goes n W xs) xs Left (λ ws. relabelled by ws ≡ after_filter by goes xs)
      (λ e. relabelled-lawful by (D by.round W xs fit s) xs is-proper (arranged by.round W xs fit s) ∙ same-words e)
      (λ e. relabelled-lawful by (tidied_arcs M) Left tidy-proper left-net.0 ∙ laid-words)

  -- the places after the nodes of labelled records are blank, and so are those of what is left
  left-places : IsLabelled by xs → Ready by (tidied_arcs M) Left
  left-places same =
      let D' = D by.round W xs fit s in
      let ready = has-ready by D' xs is-proper (room by.round W xs fit s).enough (ap (λ ys. map (unused_label by) (take (n * W) ys)) (sym same)) in
      left-net.1 (kept-blanks W z goes 0 n xs inside (subst (λ k. Blanks W z k xs) is-proper.deep (ready-blanks by D' xs ready)))

  pub labelled-words : IsLabelled by xs → filter_labelled_steps by goes xs ≡ after_filter by goes xs
  unfolding filter_labelled_steps thinned
  labelled-words same =
      let q = none_goes goes n W xs in
      cond_both q xs _ (λ ws. ws ≡ after_filter by goes xs) (λ e. sym same ∙ same-words e)
      (λ e. ap (relabelled_used by) (cond-false q xs Left e) ∙ used-lawful by (tidied_arcs M) Left tidy-proper left-net.0 (left-places same) ∙ laid-words)

  -- what is left is a diagram's
  filter-shaped : IsShaped n W (after_filter by goes xs)
  filter-shaped = relaid-shaped by (room by.round W xs fit s).low xs (tidied_arcs M) tidy-proper

  filter-timely : IsTimely n W (after_filter by goes xs)
  filter-timely = relaid-timely by xs (tidied_arcs M) tidy-proper.deep

  -- so a call that leaves it is done
  module _ (ys : List (Node S V)) (m : ℕ) (long : length ys ≡ length xs) (count : m ≡ arc_count n W xs - arc_count n W ys) where
    done : ys ≡ after_filter by goes xs → Done n W (after_filter by goes xs) ys (arcs_lost n W xs (after_filter by goes xs)) m
    done all =
        let t : IsShaped n W ys = subst (IsShaped n W) (sym all) filter-shaped in
        record { records = all; answer = count ∙ fewer-words by.round W xs ys fit long s t ∙ ap (arcs_lost n W xs) all; shaped = t; timely = subst (IsTimely n W) (sym all) filter-timely }

    pub filter-done : (labelled : Bool) → (labelled ≡ true → IsLabelled by xs) → ys ≡ (if labelled then filter_labelled_steps by goes xs else filter_steps by goes xs) → Done n W (after_filter by goes xs) ys (arcs_lost n W xs (after_filter by goes xs)) m
    filter-done true same is = done (is ∙ labelled-words (same refl))
    filter-done false same is = done (is ∙ filter-words)

-- so of a sweep
module _ {S V : Type 0} (by : Setting S V) (xs : List (Node S V)) (fit : fits by.round.n by.width (length xs) ≡ true) (s : IsShaped by.round.n by.width xs) where
  pub sweep-words : sweep_steps by xs ≡ after_sweep by xs
  unfolding sweep_steps after_sweep
  sweep-words = filter-words by xs fit s (is_barred by.round by.rule)

  pub swept-timely : IsTimely by.round.n by.width (after_sweep by xs)
  unfolding after_sweep
  swept-timely = filter-timely by xs fit s (is_barred by.round by.rule)
