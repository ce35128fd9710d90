-- The last minute to leave a node: how low it can be, and that no order that runs through the node leaves it later and keeps its hours.
use Rattle.std.proofs.Common.{◌≡◌, ℕ, zero, suc, ◌+◌, ◌*◌, ◌≤◌, ◌<◌, inr, true, false, eqb, List, [], ◌∷◌, ◌++◌, length, get_or, drop, Some, None, Option, sym, refl, ap, ◌∙◌, subst, append-nil, arith, le_of_suc-le-suc}
use Rattle.std.specs.Prelude.{ℤ, pos, negsuc, ◌-ℤ◌, ◌≤ℤ◌, int_lt}
use Rattle.std.proofs.lemmas.Bool.{ne_eqb}
use Rattle.std.proofs.lemmas.Int.{ints, clamps}
use Rattle.doors.specs.Orders.{IsDoor, StandsIn, IsPartOrder}
use Rattle.doors.specs.Sets.{has}
use Rattle.doors.proofs.Orders.{last-in, part-next}
use Rattle.round.specs.Clock.{door, drive, finish}
use Rattle.round.proofs.Clocks.{clock-laws}
use Rattle.rules.specs.Rules.{RuleLaws}
use Rattle.tallies.specs.Tallies.{TallyLaws}
use Rattle.orders.proofs.Times.{trip-van}
use Rattle.orders.specs.Allowed.{IsAllowed}
use Rattle.orders.specs.Costs.{trip_after}
use Rattle.orders.specs.Times.{van_after}
use Rattle.orders.specs.declared.van.Van.{Van}
use Rattle.layers.specs.declared.node.Down.{Down}
use Rattle.layers.specs.declared.node.Up.{Up}
use Rattle.layers.specs.Lawful.{IsEven, IsTied, IsLawful}
use Rattle.layers.specs.Net.{Layer, Net, node, target, width, PathFrom}
use Rattle.layers.specs.Labels.{leg, late_over, end_up, lasts_of, first_label, first_labels, arrival_over, merge, labels_next, ups, is_past_late}
use Rattle.layers.specs.LabelLaws.{PathTo, KeepsHoursFrom, leaving, IsLastMinute}
use Rattle.layers.specs.Settings.{Setting}
use Rattle.layers.proofs.Flows.{first-only, next-at, inside, tidy-keeps}
use Rattle.layers.proofs.Model.{backsweeps, backsweep, labels_at, or_no_up}
use Rattle.layers.proofs.Proper.{RangedAll, tied-ranged}
use Rattle.layers.proofs.Ups.{ups-at, ups-all}
use Rattle.layers.proofs.Walk.{At, even-door, OnWay, way_next, way-fits, filter-keeps, setting-out}
use Rattle.layers.proofs.Ways.{leg-bound, leg-le, or_left, or_right, one-self, snoc-assoc, van-snoc}

module _ {S V : Type 0} (by : Setting S V) where
  -- over an arc it falls by no more than the work and the leg
  low_over : (m : ℕ) (t : ℤ) (j k : ℕ) → negsuc (1998 * k) ≤ℤ t → negsuc (1998 * suc k) ≤ℤ late_over by.round m t j
  unfolding late_over
  low_over m t j k h = omega (arith, ints, clamps, leg-bound by.round m j, by.round.work j)

  -- so with k layers of arcs to the end it is at least -1998 * k - 1
  pub ups_low : (labs : List (Option (Down S V))) (Ls : Net) (a : ℕ) (u : Up) → get_or (ups by labs Ls) a None ≡ Some u → negsuc (1998 * length Ls) ≤ℤ u.late
  unfolding ups
  ups_low labs [] a u e = first-only end_up (λ a u. negsuc (1998 * 0) ≤ℤ u.late) (omega (arith, ints)) a u e
  ups_low labs (L ∷ Ls) a u e = ups-all by labs L Ls a u (λ x. negsuc (1998 * suc (length Ls)) ≤ℤ x.late) (λ x y p q. omega (arith, ints, clamps))
      (λ j b v f g. low_over (lasts_of (get_or labs a None)) v.late j (length Ls) (ups_low (labels_next by labs L (width Ls)) Ls b v g)) e

  -- ---- the last place of an order is told by the label at the node that it leads to
  pub record LastTold (labs : List (Option (Down S V))) (a : ℕ) (p : List ℕ) : Type 0 where
    pub label : Down S V
    pub labelled : get_or labs a None ≡ Some label
    pub told : has label.lasts (van_after by.round p).last ≡ true
    pub place : (van_after by.round p).last ≤ by.round.n
    pub new : (j : ℕ) → ¬ StandsIn j p → 1 ≤ j → ¬ ((van_after by.round p).last ≡ j)

  told-first : LastTold (first_labels by.rule by.tally) 0 []
  told-first = record { label = first_label by.rule by.tally; labelled = refl; told = refl; place = omega arith; new = λ j n h. omega arith }

  told-next : (labs : List (Option (Down S V))) (L : Layer) (m a j b : ℕ) (p : List ℕ) → target (node L a) j ≡ suc b → b < m → IsDoor by.round.n j → LastTold labs a p → LastTold (labels_next by labs L m) b (p ++ (j ∷ []))
  unfolding labels_next merge arrival_over
  told-next labs L m a j b p e h d t =
      let v = van-snoc by.round p j in
      let n = next-at {A = Down S V} (merge by.rule by.tally) (λ x. has x.lasts j ≡ true) (λ x y q. or_left x.lasts y.lasts j q) (λ x y q. or_right x.lasts y.lasts j q)
      (arrival_over by) labs L m a j b t.label e t.labelled h (one-self j) in
      record { label = n.0; labelled = n.1; told = rw v n.2; place = rw v d.high; new = λ k f lo. rw v (λ (q : j ≡ k). f (rw (← q) (last-in p j j (inr refl)))) }

  -- along a path
  told-along : (p : List ℕ) (labs : List (Option (Down S V))) (Ls : Net) (a b : ℕ) (q : List ℕ) → RangedAll Ls → IsEven by.round.n Ls → PathTo Ls a p b → LastTold labs a q → LastTold (labels_at by (length p) labs Ls) b (q ++ p)
  told-along [] labs Ls a b q r even path t = rw (append-nil q, ← path) t
  told-along (j ∷ p) labs [] a b q r even path t = absurd path
  told-along (j ∷ p) labs (L ∷ Ls) a b q r even path t =
      rw (← (snoc-assoc q p j)) (told-along p (labels_next by labs L (width Ls)) Ls path.0 b (q ++ (j ∷ [])) r.1 even.1 path.2
      (told-next labs L (width Ls) a j path.0 q path.1 (r.0 a j path.0 path.1) (even-door by.round L even.0 a j path.0 path.1) t))

  -- ---- no order that goes on from the node leaves it after its last minute
  pub late-from : (w : List ℕ) (labs : List (Option (Down S V))) (Ls : Net) (a : ℕ) (p : List ℕ) (m : ℕ) → LastTold labs a p → PathFrom Ls a w → IsPartOrder by.round.n (p ++ w) → m ≤ 9999
      → KeepsHoursFrom by.round (leaving by.round p m) w → (u : Up) × (get_or (ups by labs Ls) a None ≡ Some u) × (pos m ≤ℤ u.late)
  unfolding ups late_over
  late-from [] labs [] a p m t path part le hours = (end_up, ap (λ (x : ℕ). get_or {A = Option Up} (Some end_up ∷ []) x None) path, omega (arith, ints))
  late-from (j ∷ w) labs (L ∷ Ls) a p m t path part le hours =
      let r = by.round in
      let last = (van_after r p).last in
      let next = part-next r.n p j w part in
      let s = p ++ (j ∷ []) in
      let v = van-snoc r p j in
      let m' = finish r m (drive r last j) j in
      let at : leaving r s m' ≡ record { last = j; finish = m' } = rw v refl in
      let x = late-from w (labels_next by labs L (width Ls)) Ls path.0 s m' (told-next labs L (width Ls) a j path.0 p path.1 (inside Ls path.0 w path.2) next.door t) path.2
      (rw (snoc-assoc p w j) part) (omega (arith, hours.0, r.closes j)) (rw at hours.1) in
      let short = leg-le r t.label.lasts j last t.place t.told (ne_eqb last j (t.new j next.new next.door.low)) in
      let after = (clock-laws r).after m (drive r last j) j in
      ups-at by labs L Ls (λ u. pos m ≤ℤ u.late) (λ x y q. omega (arith, ints, clamps)) (λ x y q. omega (arith, ints, clamps)) a j path.0 x.0 path.1 x.1
      (rw t.labelled (omega (arith, ints, clamps, x.2, hours.0, short, after)))
  late-from w labs Ls a p m t path part le hours = absurd path

  -- of the arcs of a diagram
  pub last-minute : (D : Net) → IsLawful by.round.n by.width D → (i a : ℕ) → i ≤ length D → IsLastMinute by.round D i a (or_no_up (get_or (ups by (labels_at by i (first_labels by.rule by.tally) D) (drop i D)) a None)).late
  last-minute D p i a h q w m to on part le hours =
      let told : LastTold (labels_at by i (first_labels by.rule by.tally) D) a q = subst (λ (k : ℕ). LastTold (labels_at by k (first_labels by.rule by.tally) D) a q) to.1
      (told-along q (first_labels by.rule by.tally) D 0 a [] (tied-ranged D p.tied) p.even to.0 told-first) in
      let x = late-from w (labels_at by i (first_labels by.rule by.tally) D) (drop i D) a q m told on part le hours in
      rw x.1 x.2

-- ---- so a backsweep takes out no arc of an allowed order
module _ {S V : Type 0} {Keeps : List ℕ → Type 0} {Stands : S → List ℕ → Type 0} {Allows : ℕ → V → Type 0} (by : Setting S V) (ruled : RuleLaws by.round.n by.rule Keeps Stands) (tallied : TallyLaws by.round.n by.tally Allows) where
  -- the labels on its way tell its last place
  told-way : (labs : List (Option (Down S V))) (Ls : Net) (a : ℕ) (p w : List ℕ) → OnWay by ruled tallied labs Ls a p w → LastTold by labs a p
  unfolding At
  told-way labs Ls a p w o =
      let e = ap (λ (v : Van). v.last) (trip-van by.round by.tally p) in
      let at = o.fits in
      record { label = at.0; labelled = at.1; told = rw (← e) at.2.lasts; place = rw (← e) o.told.here; new = λ j f lo. rw (← e) (o.told.last j f lo) }

  pub backsweep_keeps : (w : List ℕ) (Ls : Net) → IsAllowed by.round Keeps w → IsEven by.round.n Ls → PathFrom Ls 0 w → PathFrom (backsweep by Ls) 0 w
  unfolding backsweep arrival_over
  backsweep_keeps w Ls o even q = tidy-keeps (backsweeps by 0 (first_labels by.rule by.tally) Ls) w
      (filter-keeps by ruled tallied (is_past_late by.round) (λ z. Unit {0}) stays (first_labels by.rule by.tally) Ls 0 [] w (setting-out by ruled tallied w Ls o even q) tt)
    where
      stays : (labs : List (Option (Down S V))) (L : Layer) (Ls : Net) (a j : ℕ) (p w : List ℕ) (o : OnWay by ruled tallied labs (L ∷ Ls) a p (j ∷ w)) → Unit {0}
          → is_past_late by.round (length p) (suc (length Ls)) j (get_or labs a None) (get_or (ups by (labels_next by labs L (width Ls)) Ls) o.path.0 None) ≡ false
      stays labs L Ls a j p w o u =
          let r = by.round in
          let s = p ++ (j ∷ []) in
          let f = way-fits by ruled tallied labs L Ls a j p w o in
          let on = way_next by ruled tallied labs L Ls a j p w o in
          let e = trip-van r by.tally s in
          let m = (van_after r s).finish in
          let soon : m ≤ (door r j).closes = rw (van-snoc r p j) o.going.timely.0 in
          let early : finish r f.0.finish (leg r f.0.lasts j) j ≤ m = rw (← e) f.3.finish in
          let x = late-from by w (labels_next by labs L (width Ls)) Ls o.path.0 s m (told-way (labels_next by labs L (width Ls)) Ls o.path.0 s w on) on.path on.going.part (omega (arith, soon, r.closes j)) on.going.timely in
          rw (f.1, x.1) (grind (arith, ints, x.2, early))
