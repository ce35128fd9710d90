-- On the records of a diagram the steps of refine and settled come to their definitions.
use Rattle.std.proofs.Common.{◌≡◌, ℕ, zero, suc, ◌+◌, ◌-◌, ◌*◌, ◌<◌, ◌≤◌, Bool, true, false, cond, eqb, ltb, List, ◌++◌, map, length, take, drop, add-zero, sym, refl, ap, ◌∙◌, subst, ap₂, arith}
use Rattle.std.proofs.lemmas.List.{length-append, length-drop}
use Rattle.std.proofs.lemmas.Bool.{cond_both, le-leb, true≢false}
use Rattle.layers.specs.Lawful.{IsLawful}
use Rattle.layers.specs.declared.node.Node.{Node}
use Rattle.layers.specs.declared.refined.Refined.{Refined}
use Rattle.layers.specs.declared.refined.Refined.TheVariants.{Full}
use Rattle.layers.specs.Net.{Net, count_arcs}
use Rattle.layers.specs.Tidy.{tidied_arcs}
use Rattle.layers.specs.Labels.{is_barred, first_labels}
use Rattle.layers.specs.Records.{labelled_records}
use Rattle.layers.specs.Calls.{arcs, labels, kept_arcs, records_with, after_sweep, sweep_answer, parts_of_layer, refinement_from, after_sweeps, refinement}
use Rattle.layers.specs.Settings.{Setting}
use Rattle.layers.specs.Shape.{IsShaped, IsTimely}
use Rattle.layers.proofs.Bridge.{laid-long, later-stays}
use Rattle.layers.proofs.Standing.{arcs-X}
use Rattle.layers.proofs.Proper.{proper-kept}
use Rattle.layers.proofs.Shaped.{relaid-shaped}
use Rattle.labels.specs.Passes.{fits, below_steps, HasDownsBefore}
use Rattle.labels.proofs.Laying.{below-lawful}
use Rattle.labels.proofs.Climbs.{down_of}
use Rattle.labels.proofs.Rooms.{Roomed, room-facts}
use Rattle.filter.specs.Steps.{Done, IsLabelled, arc_count, sweep_labelled_steps}
use Rattle.filter.proofs.FilterWords.{proper, labelled-words, sweep-words, swept-timely, shaped-count, fewer-words}
use Rattle.split.specs.Steps.{layer_steps}
use Rattle.split.proofs.LayerWords.{Done as LayerDone, layer-net}
use Rattle.refine.proofs.Parts.{Kept, kept-by-parts, kept-downs, placed-ready}
use Rattle.refine.specs.Steps.{one_sweep, one_layer, some_layers, sweeps_out, refine_steps}

module _ {S V : Type 0} (by : Setting S V) (self : (s : S) → by.rule.same s s ≡ true) where
  abbrev Recs : Type 0
  Recs = List (Node S V)

  abbrev n : ℕ
  n = by.round.n

  -- a list that has room for a diagram, and its shape
  record Sound (xs : Recs) : Type 0 where
    fit : fits n by.width (length xs) ≡ true
    shaped : IsShaped n by.width xs

  -- the labels stand if they are said to be known
  abbrev Known : Bool → Recs → Type 0
  Known b xs = b ≡ true → IsLabelled by xs

  abbrev later : Recs → Recs
  later xs = drop (n * by.width + 1) xs

  -- the arcs that a sweep of xs leaves
  abbrev left : Recs → Net
  left xs = tidied_arcs (kept_arcs (is_barred by.round by.rule) 0 (arcs n by.width xs) (labels n by.width xs))

  -- refining layer i, after a sweep of xs
  abbrev parts : ℕ → Recs → Bool × Recs
  parts i xs = parts_of_layer by by.width i 1 (after_sweep by xs)

  module _ (xs : Recs) (s : Sound xs) where
    abbrev room : Roomed n by.width (length xs)
    room = room-facts n by.width (length xs) s.fit

    once-words : (known : Bool) → Known known xs → one_sweep by known xs ≡ after_sweep by xs
    unfolding one_sweep sweep_labelled_steps after_sweep
    once-words true h = labelled-words by xs s.fit s.shaped (is_barred by.round by.rule) (h refl)
    once-words false h = sweep-words by xs s.fit s.shaped

    -- records laid out anew
    record Fresh (ys : Recs) : Type 0 where
      sound : Sound ys
      labelled : IsLabelled by ys
      tail : later ys ≡ later xs
      long : length ys ≡ length xs

    relaid : (Ls : Net) → IsLawful n by.width Ls → Fresh (records_with by xs Ls)
    unfolding records_with labelled_records
    relaid Ls p =
        let r = room in
        let l : length (labelled_records by Ls) ≡ n * by.width + 1 = laid-long by r.low (first_labels by.rule by.tally) Ls ∙ ap (λ (k : ℕ). k * by.width + 1) p.deep in
        let same : length (labelled_records by Ls ++ later xs) ≡ length xs = omega (arith, length-append (labelled_records by Ls) (later xs), l, length-drop (n * by.width + 1) xs) in
        let rest = later-stays by r.low (later xs) Ls p.deep in
        record { sound = record { fit = ap (fits n by.width) same ∙ s.fit; shaped = relaid-shaped by r.low xs Ls p }; labelled = rw (arcs-X by r.low (later xs) Ls p) (ap (λ (ys : Recs). labelled_records by Ls ++ ys) rest); tail = rest; long = same }

    left-proper : IsLawful n by.width (left xs)
    left-proper = proper-kept by room.low (is_barred by.round by.rule) (arcs n by.width xs) (labels n by.width xs) (proper by.round by.width xs s.fit s.shaped)

    -- a sweep
    swept-fresh : Fresh (after_sweep by xs)
    unfolding after_sweep
    swept-fresh = relaid (left xs) left-proper

    -- ---- a layer
    module _ (i : ℕ) (lo : 1 ≤ i) (hi : i < n) where
      parts-done : LayerDone by room.low (later xs) (Kept by room.low (later xs) (i - 1)) (after_sweep by xs) (parts i xs) (layer_steps by i (after_sweep by xs))
      unfolding after_sweep records_with
      parts-done = layer-net by room.low (later xs) (Kept by room.low (later xs) (i - 1)) self i lo hi (kept-by-parts by room.low (later xs) (i - 1)) room.high (after_sweep by xs) (record { net = left xs; well = left-proper; is = refl; holds = tt })

      layer-words : Known (ltb 1 i) xs → one_layer by i xs ≡ parts i xs
      unfolding one_layer records_with below_steps
      layer-words h =
          let q = parts-done in
          let Ls = q.left.net in
          let zs = (layer_steps by i (after_sweep by xs)).1 in
          let st = q.left.holds.1 in
          let back : suc (i - 1) ≡ i = omega arith in
          let is : labelled_records by Ls ++ later xs ≡ records_with by zs Ls = ap (λ (ys : Recs). labelled_records by Ls ++ ys) (sym (q.tail ∙ swept-fresh.tail)) in
          let downs : HasDownsBefore by i Ls zs = subst (λ (k : ℕ). HasDownsBefore by k Ls zs) back (kept-downs by room.low (later xs) (i - 1) Ls zs (omega (arith, q.left.well.deep)) st ∙ ap (λ ys. map down_of (take (suc (i - 1) * by.width) ys)) is) in
          let below : below_steps by i zs ≡ records_with by zs Ls =
          rw (ap (fits n by.width) q.long ∙ swept-fresh.sound.fit, le-leb 1 i lo, le-leb i n (omega arith)) (below-lawful by i Ls zs lo (omega arith) q.left.well q.left.holds.0 downs (placed-ready by Ls zs st.placed)) in
          ◌∙◌ {b = ((layer_steps by i (after_sweep by xs)).0, below_steps by i zs)} (ap (λ (ys : Recs). ((layer_steps by i ys).0, below_steps by i (layer_steps by i ys).1)) (once-words (ltb 1 i) h))
          (ap₂ (λ (b : Bool) (ys : Recs). (b, ys)) q.answer (below ∙ sym is ∙ sym q.left.is))

      parts-fresh : Fresh (parts i xs).1
      unfolding records_with
      parts-fresh = let q = parts-done in rw q.left.is (relaid q.left.net q.left.well)

  -- ---- all layers
  layers-words : (k i : ℕ) (xs : Recs) → Sound xs → Known (ltb 1 i) xs → 1 ≤ i → i + k ≤ n
      → let ys = (refinement_from by k i xs).1 in (some_layers by k i xs ≡ refinement_from by k i xs) × Sound ys × Known (ltb 1 (i + k)) ys
  unfolding some_layers refinement_from
  layers-words zero i xs s h lo hi = (refl, s, λ e. h (ap (ltb 1) (sym (add-zero i)) ∙ e))
  layers-words (suc k) i xs s h lo hi =
      let Y = (parts i xs).1 in
      let t = parts-fresh xs s i lo (omega arith) in
      let ih = layers-words k (suc i) Y t.sound (λ e. t.labelled) (omega arith) (omega arith) in
      let good = cond_both (parts i xs).0 (Full i, Y) (refinement_from by k (suc i) Y) (λ z. Sound z.1 × Known (ltb 1 (i + suc k)) z.1) (λ _. (t.sound, λ e. t.labelled)) (λ _. (ih.1, λ e. ih.2 (ap (ltb 1) (omega arith) ∙ e))) in
      let same = ap (λ (p : Bool × Recs). cond p.0 (Full i, p.1) (some_layers by k (suc i) p.1)) (layer-words xs s i lo (omega arith) h) ∙ ap (λ (z : Refined × Recs). cond (parts i xs).0 (Full i, Y) z) ih.0 in
      (same, good.0, good.1)

  -- ---- sweeps until nothing goes
  out-words : (known : Bool) (k : ℕ) (xs : Recs) → Sound xs → Known known xs → (k ≡ 0 → IsTimely n by.width xs)
      → (sweeps_out by known k xs ≡ after_sweeps by k xs) × IsShaped n by.width (after_sweeps by k xs) × IsTimely n by.width (after_sweeps by k xs)
  unfolding sweeps_out after_sweeps
  out-words known zero xs s h t = (refl, s.shaped, t refl)
  out-words known (suc k) xs s h t =
      let Y = after_sweep by xs in
      let f = swept-fresh xs s in
      let tY = swept-timely by xs s.fit s.shaped in
      let ih = out-words true k Y f.sound (λ e. f.labelled) (λ e. tY) in
      let good = cond_both (eqb (sweep_answer by xs) 0) Y (after_sweeps by k Y) (λ zs. IsShaped n by.width zs × IsTimely n by.width zs) (λ _. (f.sound.shaped, tY)) (λ _. (ih.1, ih.2)) in
      let few : arc_count n by.width xs - arc_count n by.width Y ≡ sweep_answer by xs = fewer-words by.round by.width xs Y s.fit f.long s.shaped f.sound.shaped in
      (rw (once-words xs s known h, few, ih.0) refl, good.0, good.1)

  -- ---- refine
  pub refine_done : (xs : Recs) → fits n by.width (length xs) ≡ true → IsShaped n by.width xs → (ys : Recs) (m : Refined) → ys ≡ (refine_steps by xs).1 → m ≡ (refine_steps by xs).0 → Done n by.width (refinement by xs).1 ys (refinement by xs).0 m
  unfolding refine_steps refinement
  refine_done xs fit shaped ys m is said =
      let p = refinement_from by (n - 1) 1 xs in
      let all = layers-words (n - 1) 1 xs (record { fit = fit; shaped = shaped }) (λ e. absurd (true≢false (sym e))) (omega arith) (omega (arith, by.round.one)) in
      let k = suc (count_arcs (arcs n by.width p.1)) in
      let out = out-words (ltb 1 n) k p.1 all.1 (λ e. all.2 (ap (ltb 1) (omega (arith, by.round.one)) ∙ e)) (λ e. absurd (omega arith)) in
      let done : refine_steps by xs ≡ (p.0, after_sweeps by k p.1) =
      ap (λ (q : Refined × Recs). (q.0, sweeps_out by (ltb 1 n) (suc (arc_count n by.width q.1)) q.1)) all.0
      ∙ ap (λ (m : ℕ). (p.0, sweeps_out by (ltb 1 n) (suc m) p.1)) (shaped-count by.round by.width p.1 all.1.fit all.1.shaped) ∙ ap (λ (ys : Recs). (p.0, ys)) out.0 in
      let rest : ys ≡ after_sweeps by k p.1 = is ∙ ap (λ (q : Refined × Recs). q.1) done in
      record { records = rest; answer = said ∙ ap (λ (q : Refined × Recs). q.0) done; shaped = subst (IsShaped n by.width) (sym rest) out.1; timely = subst (IsTimely n by.width) (sym rest) out.2 }
