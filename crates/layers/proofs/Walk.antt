-- A label on the way agrees with the beginning that leads to it, so no arc of an allowed order is swept or cut; and while settled answers yes, the labels are exact.
use Rattle.std.proofs.Common.{◌≡◌, ℕ, zero, suc, ◌+◌, ◌-◌, ◌<◌, ◌≤◌, Bool, true, false, cond, ◌⊎◌, List, [], ◌∷◌, ◌++◌, length, get_or, Some, None, Option, sym, refl, ap, ◌∙◌, subst, inl, inr, arith, not, append-nil}
use lib.Bits.{bit_and, bit_or, and_self, or_self}
use lib.Count.{ones}
use Rattle.std.proofs.lemmas.Bool.{le-ltb, ne_eqb, false_from_ne_true, true≢false, and_parts, cond_both}
use Rattle.doors.proofs.Orders.{in-last, last-in, part-next, next-part, each_none, each_more}
use Rattle.doors.specs.Orders.{IsDoor, StandsIn, IsPartOrder}
use Rattle.doors.specs.Sets.{has}
use Rattle.round.proofs.Clocks.{clock-laws}
use Rattle.round.specs.Clock.{door, drive, finish, latest_finish}
use Rattle.round.specs.declared.table.Round.{Round}
use Rattle.rules.specs.Rules.{RuleLaws, state_of}
use Rattle.tallies.specs.Tallies.{TallyLaws}
use Rattle.orders.proofs.Times.{trip-van}
use Rattle.orders.specs.Allowed.{IsAllowed}
use Rattle.orders.specs.Costs.{Trip, cost, next_trip, trip_after}
use Rattle.orders.specs.Times.{van_after, finish_of, KeepsHours}
use Rattle.layers.specs.Lawful.{IsEven}
use Rattle.layers.specs.declared.node.Up.{Up}
use Rattle.layers.specs.Net.{Outs, Layer, Net, node, target, width, PathFrom, every_door, every_arc}
use Rattle.layers.specs.Flow.{arrivals_at, end_label, gather}
use Rattle.layers.specs.Labels.{bit_of, leg, end_up, ups, first_label, arrival_over, merge, first_labels, labels_next, is_barred, all_agree, agree, agrees_with_all}
use Rattle.layers.proofs.Flows.{EvenLayer, redirect-arc, inside, has-arc, next-at, tidy-keeps, next-all, first-only, Among, ins-in, ins-from, next-some, next-within, gather-all}
use Rattle.layers.proofs.Ways.{or_left, or_right, or_split, and_left, and_right, one-self, one_only, none_has, ones_in, part-tail, trip-snoc, van-snoc, length-snoc, snoc-assoc, TimelyFrom, timely-from, leg-le, leg-bound, state-snoc, leg-one}
use Rattle.layers.proofs.Ups.{ups-at}
use Rattle.layers.proofs.Model.{kept, sweeps, sweep, agrees, quiet, settles, settled, bound, valueO}
use Rattle.layers.specs.Settings.{Setting}
use Rattle.layers.specs.declared.node.Down.{Down}
use Rattle.layers.specs.Calls.{kept_arcs, places_agree, in_arcs_agree, keeps_all_arcs}
use Rattle.std.proofs.lemmas.Bool.Decides.{nat_tests}

pub within : (k f : ℕ) → k < 16 → f ≤ latest_finish (suc k) → f ≤ latest_finish 16
within k f h e = omega arith

pub door-at : (ts : Outs) (k b : ℕ) → get_or ts k 0 ≡ suc b → k < length ts
door-at [] k b e = absurd (omega arith)
door-at (t ∷ ts) k b e = grind (arith, e, door-at ts (k - 1) b)

pub even-door : (r : Round) (L : Layer) → EvenLayer r.n L → (a j b : ℕ) → target (node L a) j ≡ suc b → IsDoor r.n j
even-door r L even a zero b e = absurd (omega arith)
even-door r L even a (suc k) b e =
    let h = door-at (node L a) k b e in let g = even a (has-arc L a (suc k) b e) in record { low = omega arith; high = omega arith }

-- ---- sets of a label, and a path
-- what the path w has is told by the label
pub record Tells (all some : ℕ) (w : List ℕ) : Type 0 where
  pub all_in : (j : ℕ) → has all j ≡ true → StandsIn j w
  pub in_some : (j : ℕ) → StandsIn j w → has some j ≡ true

-- one door k more, at either end of the path
pub record Longer (k : ℕ) (more : List ℕ → List ℕ) : Type 0 where
  pub here : (w : List ℕ) → StandsIn k (more w)
  pub stays : (j : ℕ) (w : List ℕ) → StandsIn j w → StandsIn j (more w)
  pub only : (j : ℕ) (w : List ℕ) → StandsIn j (more w) → StandsIn j w ⊎ (j ≡ k)

pub at_front : (k : ℕ) → Longer k (λ w. k ∷ w)
at_front k = record { here = λ w. inl refl; stays = λ j w i. inr i; only = λ j w i. elim i [ inl e ↦ inr e | inr x ↦ inl x ] }

pub at_back : (k : ℕ) → Longer k (λ w. w ++ (k ∷ []))
at_back k = record { here = λ w. last-in w k k (inr refl); stays = λ j w i. last-in w j k (inl i); only = λ j w i. in-last w j k i }

pub tells-step : (a s k : ℕ) (more : List ℕ → List ℕ) (w : List ℕ) → Longer k more → Tells a s w → Tells (bit_or a (bit_of k)) (bit_or s (bit_of k)) (more w)
tells-step a s k more w l t = grind (arith, l, t, or_split, or_left, or_right, one_only, one-self)

pub tells-left : (a s a' s' : ℕ) (w : List ℕ) → Tells a s w → Tells (bit_and a a') (bit_or s s') w
tells-left a s a' s' w t = record { all_in = λ j h. t.all_in j (and_left a a' j h); in_some = λ j i. or_left s s' j (t.in_some j i) }

pub tells-right : (a s a' s' : ℕ) (w : List ℕ) → Tells a' s' w → Tells (bit_and a a') (bit_or s s') w
tells-right a s a' s' w t = record { all_in = λ j h. t.all_in j (and_right a a' j h); in_some = λ j i. or_right s s' j (t.in_some j i) }

module _ {S V : Type 0} {Keeps : List ℕ → Type 0} {Stands : S → List ℕ → Type 0} {Allows : ℕ → V → Type 0} (by : Setting S V) (ruled : RuleLaws by.round.n by.rule Keeps Stands) (tallied : TallyLaws by.round.n by.tally Allows) where
  -- ---- an order under way
  pub record Going (p w : List ℕ) : Type 0 where
    pub part : IsPartOrder by.round.n (p ++ w)
    pub keeps : Keeps (p ++ w)
    pub timely : TimelyFrom by.round (van_after by.round p) w
    pub total : length p + length w ≡ by.round.n

  pub going_next : (p w : List ℕ) (j : ℕ) → Going p (j ∷ w) → Going (p ++ (j ∷ [])) w
  going_next p w j g = record { part = rw (snoc-assoc p w j) g.part; keeps = rw (snoc-assoc p w j) g.keeps; timely = rw (van-snoc by.round p j) g.timely.1; total = omega (arith, length-snoc p j, g.total) }

  -- what is so of the true clock and cost after p
  pub record Told (p : List ℕ) : Type 0 where
    pub part : IsPartOrder by.round.n p
    pub soon : (trip_after by.round by.tally p).van.finish ≤ latest_finish (length p)
    pub fine : Allows (length p) (cost by.round by.tally p)
    pub here : (trip_after by.round by.tally p).van.last ≤ by.round.n
    pub last : (j : ℕ) → ¬ StandsIn j p → 1 ≤ j → ¬ ((trip_after by.round by.tally p).van.last ≡ j)

  pub told_none : Told []
  told_none = record { part = tt; soon = omega arith; fine = tallied.start_allowed; here = omega arith; last = λ j f h. omega arith }

  -- ---- labels that fit
  pub record Fits (l : Down S V) (p : List ℕ) : Type 0 where
    pub part : IsPartOrder by.round.n p
    pub sets : Tells l.all l.some p
    pub finish : l.finish ≤ (trip_after by.round by.tally p).van.finish
    pub lasts : has l.lasts (trip_after by.round by.tally p).van.last ≡ true
    pub state : Stands l.state p
    pub value : by.tally.not_above l.value (cost by.round by.tally p) ≡ true

  less-left : (p : List ℕ) (x y : Down S V) → Fits x p → Fits (merge by.rule by.tally x y) p
  unfolding merge
  less-left p x y f = grind (arith, f, tells-left, or_left, ruled.cover_left, tallied.order_chain, tallied.lesser_is, tallied.order_self, tallied.order_total)

  less-right : (p : List ℕ) (x y : Down S V) → Fits y p → Fits (merge by.rule by.tally x y) p
  unfolding merge
  less-right p x y f = grind (arith, f, tells-right, or_right, ruled.cover_right, tallied.order_chain, tallied.lesser_is, tallied.order_self, tallied.order_total)

  pub told-next : (p : List ℕ) (j : ℕ) → Told p → IsDoor by.round.n j → length p < 16 → ¬ StandsIn j p → Told (p ++ (j ∷ []))
  told-next p j t d k f =
      let e = trip-snoc by.round by.tally p j in
      let le = by.round.legs (trip_after by.round by.tally p).van.last j in
      let s = (clock-laws by.round).bound (length p) (trip_after by.round by.tally p).van.finish (drive by.round (trip_after by.round by.tally p).van.last j) j t.soon le in
      let a = tallied.step_allowed (length p) (cost by.round by.tally p) j (drive by.round (trip_after by.round by.tally p).van.last j) (next_trip by.round by.tally (trip_after by.round by.tally p) j).van.finish k d le (within (length p) _ k s) t.fine in
      grind (arith, e, s, a, t, d, f, length-snoc p j, next-part by.round.n p j, last-in p)

  pub arrive-fits : (l : Down S V) (p : List ℕ) (j : ℕ) → Fits l p → Told p → Allows (length p) l.value → IsDoor by.round.n j → length p < 16 → ¬ StandsIn j p → Fits (arrival_over by l j) (p ++ (j ∷ []))
  unfolding arrival_over
  arrive-fits l p j f t fine d k n =
      let e = trip-snoc by.round by.tally p j in
      let g : leg by.round l.lasts j ≤ drive by.round (trip_after by.round by.tally p).van.last j =
      leg-le by.round l.lasts j (trip_after by.round by.tally p).van.last t.here f.lasts (ne_eqb (trip_after by.round by.tally p).van.last j (t.last j n d.low)) in
      let dl = by.round.legs (trip_after by.round by.tally p).van.last j in
      let early = (clock-laws by.round).later l.finish (trip_after by.round by.tally p).van.finish (leg by.round l.lasts j) (drive by.round (trip_after by.round by.tally p).van.last j) j f.finish g in
      let s = (clock-laws by.round).bound (length p) (trip_after by.round by.tally p).van.finish (drive by.round (trip_after by.round by.tally p).van.last j) j t.soon dl in
      record {
        part = (told-next p j t d k n).part;
        sets = tells-step l.all l.some j (λ p. p ++ (j ∷ [])) p (at_back j) f.sets;
        finish = rw e early;
        lasts = rw e (one-self j);
        state = ruled.step_stands l.state p j (record { part = t.part; door = d; new = n }) f.state;
        value = subst (λ (z : Trip V). by.tally.not_above (by.tally.step l.value j (leg by.round l.lasts j) (finish by.round l.finish (leg by.round l.lasts j) j)) z.cost ≡ true) (sym e)
            (tallied.step_rises (length p) l.value (cost by.round by.tally p) j (leg by.round l.lasts j) (drive by.round (trip_after by.round by.tally p).van.last j) (finish by.round l.finish (leg by.round l.lasts j) j) (next_trip by.round by.tally (trip_after by.round by.tally p) j).van.finish
            k d g dl early (within (length p) _ k s) fine t.fine f.value);
      }

  -- ---- every label's value is one that the tally allows
  unfoldable pub Good : ℕ → List (Option (Down S V)) → Type 0
  Good k labs = (a : ℕ) (l : Down S V) → get_or labs a None ≡ Some l → (Allows k l.value) × (l.finish ≤ latest_finish k)

  pub good-first : Good 0 (first_labels by.rule by.tally)
  unfolding Good
  good-first = first-only (first_label by.rule by.tally) (λ a l. (Allows 0 l.value) × (l.finish ≤ latest_finish 0)) (tallied.start_allowed, omega arith)

  pub good-next : (k : ℕ) (labs : List (Option (Down S V))) (L : Layer) (count : ℕ) → k < 16 → Good k labs → EvenLayer by.round.n L → Good (suc k) (labels_next by labs L count)
  unfolding Good labels_next arrival_over merge
  good-next k labs L count h good even b m e = next-all (arrival_over by) (merge by.rule by.tally) labs L count b m (λ x. (Allows (suc k) x.value) × (x.finish ≤ latest_finish (suc k)))
      (λ x y p q. (rw (tallied.lesser_is x.value y.value) (grind (arith, p, q)), omega arith))
      (λ a j l f s.
      let g = good a l s in
      let lb = leg-bound by.round l.lasts j in
      let early = (clock-laws by.round).bound k l.finish (leg by.round l.lasts j) j g.1 lb in
      (tallied.step_allowed k l.value j (leg by.round l.lasts j) (finish by.round l.finish (leg by.round l.lasts j) j) h (even-door by.round L even a j b f) lb (within k _ h early) g.0, early)) e

  -- ---- the label at a place fits the beginning p
  unfoldable pub At : List (Option (Down S V)) → ℕ → List ℕ → Type 0
  At labs a p = (l : Down S V) × (get_or labs a None ≡ Some l) × Fits l p

-- ---- upward
pub path-up : {S V : Type 0} (by : Setting S V) (labs : List (Option (Down S V))) (Ls : Net) (a : ℕ) (w : List ℕ) → PathFrom Ls a w → (u : Up) × (get_or (ups by labs Ls) a None ≡ Some u) × Tells u.allup u.someup w
unfolding ups
path-up by labs [] a [] p = (end_up, ap (λ (x : ℕ). get_or {A = Option Up} (Some end_up ∷ []) x None) p, record { all_in = λ j h. absurd (none_has j h); in_some = λ j i. absurd i })
path-up by labs (L ∷ Ls) a (j ∷ w) p =
    let x = path-up by (labels_next by labs L (width Ls)) Ls p.0 w p.2 in
    ups-at by labs L Ls (λ x. Tells x.allup x.someup (j ∷ w)) (λ x y. tells-left x.allup x.someup y.allup y.someup (j ∷ w)) (λ x y. tells-right x.allup x.someup y.allup y.someup (j ∷ w))
    a j p.0 x.0 p.1 x.1 (tells-step x.0.allup x.0.someup j (λ w. j ∷ w) w (at_front j) x.2)
path-up by labs Ls a w p = absurd p

pub path-length : (Ls : Net) (a : ℕ) (w : List ℕ) → PathFrom Ls a w → length w ≡ length Ls
path-length [] a [] p = refl
path-length (L ∷ Ls) a (j ∷ w) p = ap suc (path-length Ls p.0 w p.2)
path-length Ls a w p = absurd p

module _ {S V : Type 0} {Keeps : List ℕ → Type 0} {Stands : S → List ℕ → Type 0} {Allows : ℕ → V → Type 0} (by : Setting S V) (ruled : RuleLaws by.round.n by.rule Keeps Stands) (tallied : TallyLaws by.round.n by.tally Allows) where
  pub going-facts : (p w : List ℕ) (j : ℕ) → Going by ruled tallied p (j ∷ w) → IsDoor by.round.n j × (¬ StandsIn j p) × (length p < 16)
  going-facts p w j g =
      let x = part-next by.round.n p j w g.part in
      (x.door, x.new, omega (arith, g.total, by.round.most))

  pub not-barred : (p w : List ℕ) (j : ℕ) (l : Down S V) (u : Up) → Going by ruled tallied p (j ∷ w) → Told by ruled tallied p → Fits by ruled tallied l p → Fits by ruled tallied (arrival_over by l j) (p ++ (j ∷ []))
      → Tells u.allup u.someup w → is_barred by.round by.rule (length p) (suc (length w)) j (Some l) (Some u) ≡ false
  unfolding arrival_over
  not-barred p w j l u g t f a fu =
      let facts = going-facts p w j g in
      let tail = part-tail by.round.n p (j ∷ w) g.part in
      let c = ruled.bars_breaks l.state p j (part-next by.round.n p j w g.part) f.state in
      let keeps = ruled.keeps_front (p ++ (j ∷ [])) w (rw (snoc-assoc p w j) g.part) (rw (snoc-assoc p w j) g.keeps) in
      let x = ones_in by.round.n (bit_or l.some (bit_of j)) (p ++ (j ∷ [])) a.part a.sets.in_some in
      let y = ones_in by.round.n (bit_or u.someup (bit_of j)) (j ∷ w) tail (tells-step u.allup u.someup j (λ w. j ∷ w) w (at_front j) fu).in_some in
      let has_not = false_from_ne_true (has l.all j) (λ h. facts.1 (f.sets.all_in j h)) in
      let enough = le-ltb (ones (bit_or l.some (bit_of j))) (suc (length p)) (rw (← (length-snoc p j)) x) in
      let in_time = le-ltb (door by.round j).closes (finish by.round l.finish (leg by.round l.lasts j) j) (omega (arith, a.finish, closing)) in
      let unbarred = false_from_ne_true (by.rule.bars l.state j) (λ h. c h keeps) in
      let not_up = false_from_ne_true (has u.allup j) (λ h. tail.1 (fu.all_in j h)) in
      let enough_up = le-ltb (ones (bit_or u.someup (bit_of j))) (suc (length w)) y in
      rw (has_not, enough, in_time, unbarred, not_up, enough_up)
    where
      closing : (trip_after by.round by.tally (p ++ (j ∷ []))).van.finish ≤ (door by.round j).closes
      closing = rw (← (sym (van-snoc by.round p j) ∙ sym (trip-van by.round by.tally (p ++ (j ∷ []))))) g.timely.0

  -- p leads to place a of the first of these layers, and w on from it to the end
  pub record OnWay (labs : List (Option (Down S V))) (Ls : Net) (a : ℕ) (p w : List ℕ) : Type 0 where
    pub going : Going by ruled tallied p w
    pub told : Told by ruled tallied p
    pub fits : At by ruled tallied labs a p
    pub good : Good by ruled tallied (length p) labs
    pub even : IsEven by.round.n Ls
    pub path : PathFrom Ls a w

  -- what arrives fits
  pub way-fits : (labs : List (Option (Down S V))) (L : Layer) (Ls : Net) (a j : ℕ) (p w : List ℕ) (o : OnWay labs (L ∷ Ls) a p (j ∷ w)) → (l : Down S V) × (get_or labs a None ≡ Some l) × Fits by ruled tallied l p × Fits by ruled tallied (arrival_over by l j) (p ++ (j ∷ []))
  unfolding At Good
  way-fits labs L Ls a j p w o =
      let facts = going-facts p w j o.going in let at = o.fits in
      (at.0, at.1, at.2, arrive-fits by ruled tallied at.0 p j at.2 o.told (o.good a at.0 at.1).0 facts.0 facts.2 facts.1)

  -- over an arc
  pub way_next : (labs : List (Option (Down S V))) (L : Layer) (Ls : Net) (a j : ℕ) (p w : List ℕ) (o : OnWay labs (L ∷ Ls) a p (j ∷ w)) → OnWay (labels_next by labs L (width Ls)) Ls o.path.0 (p ++ (j ∷ [])) w
  unfolding At labels_next
  way_next labs L Ls a j p w o =
      let facts = going-facts p w j o.going in
      let f = way-fits labs L Ls a j p w o in
      let s = p ++ (j ∷ []) in
      let q = next-at {A = Down S V} (merge by.rule by.tally) (λ l. Fits by ruled tallied l s) (less-left by ruled tallied s) (less-right by ruled tallied s)
      (arrival_over by) labs L (width Ls) a j o.path.0 f.0 o.path.1 f.1 (inside Ls o.path.0 w o.path.2) f.3 in record {
        going = going_next by ruled tallied p w j o.going;
        told = told-next by ruled tallied p j o.told facts.0 facts.2 facts.1;
        fits = q;
        good = rw (length-snoc p j) (good-next by ruled tallied (length p) labs L (width Ls) facts.2 o.good o.even.0);
        even = o.even.1;
        path = o.path.2;
      }

  -- a filter that takes out none of its arcs keeps the order
  pub filter-keeps : (goes : ℕ → ℕ → ℕ → Option (Down S V) → Option Up → Bool) (Q : List ℕ → Type 0)
      → ((labs : List (Option (Down S V))) (L : Layer) (Ls : Net) (a j : ℕ) (p w : List ℕ) (o : OnWay labs (L ∷ Ls) a p (j ∷ w)) → Q (p ++ (j ∷ w)) → goes (length p) (suc (length Ls)) j (get_or labs a None) (get_or (ups by (labels_next by labs L (width Ls)) Ls) o.path.0 None) ≡ false)
      → (labs : List (Option (Down S V))) (Ls : Net) (a : ℕ) (p w : List ℕ) → OnWay labs Ls a p w → Q (p ++ w) → PathFrom (kept by goes (length p) labs Ls) a w
  unfolding kept_arcs
  filter-keeps goes Q stays labs [] a p [] o u = o.path
  filter-keeps goes Q stays labs (L ∷ Ls) a p (j ∷ w) o u =
      let q = o.path in (
        q.0,
        redirect-arc (λ a j b. cond (goes (length p) (suc (length Ls)) j (get_or labs a None) (get_or (ups by (labels_next by labs L (width Ls)) Ls) b None)) 0 (suc b)) L a j q.0 q.1 ∙ ap (λ (z : Bool). cond z 0 (suc q.0)) (stays labs L Ls a j p w o u),
        rw (← (length-snoc p j)) (filter-keeps goes Q stays (labels_next by labs L (width Ls)) Ls q.0 (p ++ (j ∷ [])) w (way_next labs L Ls a j p w o) (rw (snoc-assoc p w j) u)),
      )
  filter-keeps goes Q stays labs Ls a p w o u = absurd o.path

  -- an allowed order, not yet under way
  pub setting-out : (w : List ℕ) (Ls : Net) → IsAllowed by.round Keeps w → IsEven by.round.n Ls → PathFrom Ls 0 w → OnWay (first_labels by.rule by.tally) Ls 0 [] w
  unfolding At
  setting-out w Ls o even q =
      let f : Fits by ruled tallied (first_label by.rule by.tally) [] = record { part = tt; sets = record { all_in = λ j h. absurd (none_has j h); in_some = λ j i. absurd i }; finish = omega arith; lasts = refl; state = ruled.start_stands; value = tallied.order_self by.tally.start } in
      let a : At by ruled tallied (first_labels by.rule by.tally) 0 [] = (first_label by.rule by.tally, refl, f) in
      grind (arith, a, o, even, q, timely-from by.round [] w o.timely, told_none by ruled tallied, good-first by ruled tallied)

  pub sweep-keeps : (w : List ℕ) (Ls : Net) → IsAllowed by.round Keeps w → IsEven by.round.n Ls → PathFrom Ls 0 w → PathFrom (sweep by Ls) 0 w
  unfolding sweep
  sweep-keeps w Ls o even q = tidy-keeps (sweeps by 0 (first_labels by.rule by.tally) Ls) w
      (filter-keeps (is_barred by.round by.rule) (λ z. Unit {0}) stays (first_labels by.rule by.tally) Ls 0 [] w (setting-out w Ls o even q) tt)
    where
      stays : (labs : List (Option (Down S V))) (L : Layer) (Ls : Net) (a j : ℕ) (p w : List ℕ) (o : OnWay labs (L ∷ Ls) a p (j ∷ w)) → Unit {0} → is_barred by.round by.rule (length p) (suc (length Ls)) j (get_or labs a None) (get_or (ups by (labels_next by labs L (width Ls)) Ls) o.path.0 None) ≡ false
      stays labs L Ls a j p w o u =
          let x = path-up by (labels_next by labs L (width Ls)) Ls o.path.0 w o.path.2 in
          let f = way-fits labs L Ls a j p w o in
          rw (f.1, x.1, ← path-length Ls o.path.0 w o.path.2) (not-barred p w j f.0 x.0 o.going o.told f.2 f.3 x.2)

module _ {S V : Type 0} {Keeps : List ℕ → Type 0} {Stands : S → List ℕ → Type 0} (by : Setting S V) (ruled : RuleLaws by.round.n by.rule Keeps Stands) where
  -- ---- labels that agree in all but the value
  pub record Agree (x y : Down S V) : Type 0 where
    pub all : x.all ≡ y.all
    pub some : x.some ≡ y.some
    pub finish : x.finish ≡ y.finish
    pub lasts : x.lasts ≡ y.lasts
    pub state : x.state ≡ y.state

  pub agree-yes : (x y : Down S V) → agree by.rule x y ≡ true → Agree x y
  unfolding agree
  agree-yes x y e = grind (arith, nat_tests, e, ruled.same_is)

  yes-agree : (x y : Down S V) → Agree x y → agree by.rule x y ≡ true
  unfolding agree
  yes-agree x y e = let s = ap (by.rule.same x.state) (sym e.state) ∙ ruled.same_self x.state in grind (arith, nat_tests, s, e.all, e.some, e.finish, e.lasts)

  pub agree-self : (x : Down S V) → Agree x x
  agree-self x = record { all = refl; some = refl; finish = refl; lasts = refl; state = refl }

  pub agree-back : (x y z : Down S V) → Agree x y → Agree x z → Agree y z
  agree-back x y z p q = record { all = sym p.all ∙ q.all; some = sym p.some ∙ q.some; finish = sym p.finish ∙ q.finish; lasts = sym p.lasts ∙ q.lasts; state = sym p.state ∙ q.state }

  -- merging what agrees gives the same
  pub agree-merge : (x y z : Down S V) → Agree x y → Agree x z → Agree x (merge by.rule by.tally y z)
  unfolding merge
  agree-merge x y z p q = grind (arith, p, q, and_self, or_self, ruled.cover_same)

  pub agree-arrive : (x y : Down S V) (j : ℕ) → Agree x y → Agree (arrival_over by x j) (arrival_over by y j)
  unfolding arrival_over
  agree-arrive x y j p = grind (arith, p)

  -- a list of arrivals agrees if any two do
  all_yes : (x : Down S V) (l : List (Down S V)) → agrees_with_all by.rule x l ≡ true → (y : Down S V) → Among y l → Agree x y
  unfolding agrees_with_all
  all_yes x [] e y i = absurd i
  all_yes x (z ∷ l) e y i = grind (arith, e, i, agree-yes x z, all_yes x l)

  yes-all : (x : Down S V) (l : List (Down S V)) → ((y : Down S V) → Among y l → Agree x y) → agrees_with_all by.rule x l ≡ true
  unfolding agrees_with_all
  yes-all x [] f = refl
  yes-all x (y ∷ l) f = rw (yes-agree x y (f y (inl refl))) (yes-all x l (λ z i. f z (inr i)))

  pub pairs : (l : List (Down S V)) → all_agree by.rule l ≡ true → (y z : Down S V) → Among y l → Among z l → Agree y z
  unfolding all_agree
  pairs [] e y z i k = absurd i
  pairs (x ∷ l) e y z i k = grind (arith, i, k, all_yes x l e, agree-self x, agree-back x y z)

  pub by-pairs : (l : List (Down S V)) → ((y z : Down S V) → Among y l → Among z l → Agree y z) → all_agree by.rule l ≡ true
  unfolding all_agree
  by-pairs [] f = refl
  by-pairs (x ∷ l) f = yes-all x l (λ y i. f x y (inl refl) (inr i))

  -- ---- what is gathered from arrivals that agree agrees with each
  pub same-gather : (l : List (Down S V)) (m x : Down S V) → all_agree by.rule l ≡ true → gather (merge by.rule by.tally) l ≡ Some m → Among x l → Agree x m
  same-gather l m x e g i = gather-all (merge by.rule by.tally) (Agree x) (agree-merge x) l m (λ y k. pairs l e x y i k) g

-- ---- tests that passed
every_door-at : (f : ℕ → ℕ → Bool) (j : ℕ) (ts : Outs) (k m b : ℕ) → j + k ≡ m → every_door f j ts ≡ true → get_or ts k 0 ≡ suc b → f m b ≡ true
unfolding every_door
every_door-at f j [] k m b h t e = absurd (omega arith)
every_door-at f j (s ∷ ts) k m b h t e = grind (arith, t, e, every_door-at f (suc j) ts)

pub every_arc-at : (f : ℕ → ℕ → ℕ → Bool) (c : ℕ) (L : Layer) (a m j b : ℕ) → c + a ≡ m → every_arc f c L ≡ true → target (node L a) j ≡ suc b → f m j b ≡ true
unfolding every_arc
every_arc-at f c [] a m j b h t e = absurd (grind (arith, e))
every_arc-at f c (nd ∷ L) a m j b h t e = grind (arith, t, e, every_door-at (f c) 1 nd, every_arc-at f (suc c) L)

module _ {S V : Type 0} {Keeps : List ℕ → Type 0} {Stands : S → List ℕ → Type 0} {Allows : ℕ → V → Type 0} (by : Setting S V) (ruled : RuleLaws by.round.n by.rule Keeps Stands) (tallied : TallyLaws by.round.n by.tally Allows) where
  -- the value gathered is that of some arrival
  abbrev Attained : V → List (Down S V) → Type 0
  Attained v l = (x : Down S V) × Among x l × (x.value ≡ v)

  value-gather : (l : List (Down S V)) (m : Down S V) → gather (merge by.rule by.tally) l ≡ Some m → Attained m.value l
  unfolding merge
  value-gather l m = gather-all (merge by.rule by.tally) (λ x. Attained x.value l) (λ x y p q. rw (tallied.lesser_is x.value y.value) (cond_both (by.tally.not_above x.value y.value) x.value y.value (λ v. Attained v l) (λ _. p) (λ _. q))) l m (λ x i. (x, i, refl))

  -- ---- exact labels
  pub record Sound (p : List ℕ) : Type 0 where
    pub keeps : Keeps p
    pub timely : KeepsHours by.round p
    pub told : Told by ruled tallied p

  pub record Exact (l : Down S V) (p : List ℕ) : Type 0 where
    pub all : (j : ℕ) → StandsIn j p → has l.all j ≡ true
    pub finish : l.finish ≡ (trip_after by.round by.tally p).van.finish
    pub lasts : l.lasts ≡ bit_of (trip_after by.round by.tally p).van.last
    pub state : l.state ≡ state_of by.rule p

  sound_none : Sound []
  sound_none = record { keeps = ruled.keeps_none; timely = each_none _; told = told_none by ruled tallied }

  exact-first : Exact (first_label by.rule by.tally) []
  exact-first = record { all = λ j i. absurd i; finish = refl; lasts = refl; state = refl }

  exact_same : (x y : Down S V) (p : List ℕ) → Agree by ruled x y → Exact x p → Exact y p
  exact_same x y p s e = grind (arith, s, e)

  -- what a sweep that takes nothing says of an arc
  pub record Clear (l : Down S V) (j : ℕ) : Type 0 where
    pub new : has l.all j ≡ false
    pub early : finish by.round l.finish (leg by.round l.lasts j) j ≤ (door by.round j).closes
    pub free : by.rule.bars l.state j ≡ false

  -- one door on
  pub record Onward (l : Down S V) (p : List ℕ) (j : ℕ) : Type 0 where
    pub sound : Sound (p ++ (j ∷ []))
    pub exact : Exact (arrival_over by l j) (p ++ (j ∷ []))
    pub worth : l.value ≡ cost by.round by.tally p → (arrival_over by l j).value ≡ cost by.round by.tally (p ++ (j ∷ []))

  onward : (l : Down S V) (p : List ℕ) (j : ℕ) → length p < 16 → IsDoor by.round.n j → Sound p → Exact l p → Clear l j → Onward l p j
  unfolding arrival_over
  onward l p j k d s e c =
      let n : ¬ StandsIn j p = λ i. absurd (true≢false (sym (e.all j i) ∙ c.new)) in
      let z = trip-snoc by.round by.tally p j in
      let t = s.told in
      let g : leg by.round l.lasts j ≡ drive by.round (trip_after by.round by.tally p).van.last j =
      ap (λ (m : ℕ). leg by.round m j) e.lasts ∙ leg-one by.round (trip_after by.round by.tally p).van.last j t.here (ne_eqb (trip_after by.round by.tally p).van.last j (t.last j n d.low)) in
      let v = trip-van by.round by.tally (p ++ (j ∷ [])) in
      let q = ruled.clear_keeps p j (record { part = t.part; door = d; new = n }) s.keeps in
      let m = each_more (λ w i. finish_of by.round (w ++ (i ∷ [])) ≤ (door by.round i).closes) p j s.timely in
      grind (arith, z, g, v, q, m, e, c, told-next by ruled tallied p j t d k n, in-last p, or_left l.all (bit_of j), or_right l.all (bit_of j), one-self j, state-snoc by.rule p j)

  -- ---- settled
  settles-arc : (i : ℕ) (labs : List (Option (Down S V))) (L : Layer) (Ls : Net) (a j b : ℕ) (l : Down S V) → settles by i labs (L ∷ Ls) ≡ true
      → target (node L a) j ≡ suc b → get_or labs a None ≡ Some l → Clear l j
  unfolding settles keeps_all_arcs
  settles-arc i labs L Ls a j b l s e g =
      let t = every_arc-at (λ a j b. not (is_barred by.round by.rule i (suc (length Ls)) j (get_or labs a None) (get_or (ups by (labels_next by labs L (width Ls)) Ls) b None))) 0 L a a j b (omega arith)
      (and_parts _ _ (and_parts (agrees by labs (L ∷ Ls)) (quiet by i labs (L ∷ Ls)) s).1).0 e in
      grind (arith, nat_tests, g, t)

  agreed-at : (labs : List (Option (Down S V))) (L : Layer) (k b : ℕ) → places_agree by labs L k ≡ true → b < k → all_agree by.rule (arrivals_at (arrival_over by) b labs L) ≡ true
  unfolding places_agree
  agreed-at labs L zero b e h = absurd (omega arith)
  agreed-at labs L (suc k) b e h = grind (arith, nat_tests, e, h, agreed-at labs L k b)

  settles-next : (i : ℕ) (labs : List (Option (Down S V))) (L : Layer) (Ls : Net) → settles by i labs (L ∷ Ls) ≡ true
      → (1 ≤ length Ls → places_agree by labs L (width Ls) ≡ true) × (settles by (suc i) (labels_next by labs L (width Ls)) Ls ≡ true)
  unfolding settles in_arcs_agree keeps_all_arcs
  settles-next i labs L [] s = (λ h. absurd (omega arith), refl)
  settles-next i labs L (M ∷ Ls) s = grind (arith, s)

  -- what gathers arrivals at a node, all of one label but the value, is as exact as each
  exact-next : (i : ℕ) (labs : List (Option (Down S V))) (L : Layer) (Ls : Net) (b : ℕ) (m x : Down S V) (p : List ℕ) → settles by i labs (L ∷ Ls) ≡ true → get_or (labels_next by labs L (width Ls)) b None ≡ Some m
      → Among x (arrivals_at (arrival_over by) b labs L) → Exact x p → 1 ≤ length Ls → Exact m p
  unfolding labels_next
  exact-next i labs L Ls b m x p s e k o h =
      let n = next-within (arrival_over by) (merge by.rule by.tally) labs L (width Ls) b m e in
      exact_same x m p (same-gather by ruled (arrivals_at (arrival_over by) b labs L) m x (agreed-at labs L (width Ls) b ((settles-next i labs L Ls s).0 h) n) (next-some (arrival_over by) (merge by.rule by.tally) labs L (width Ls) b m e) k) o

  -- ---- every path is sound
  pub paths-sound : (i : ℕ) (p w : List ℕ) (labs : List (Option (Down S V))) (Ls : Net) (a : ℕ) (l : Down S V) → length p + length Ls ≡ by.round.n → settles by i labs Ls ≡ true
      → get_or labs a None ≡ Some l → (1 ≤ length Ls → Exact l p) → Sound p → IsEven by.round.n Ls → PathFrom Ls a w → Sound (p ++ w)
  unfolding labels_next
  paths-sound i p [] labs [] a l t s g e o even q = rw (append-nil p) o
  paths-sound i p (j ∷ w) labs (L ∷ Ls) a l t s g e o even q =
      let b = q.0 in
      let on = onward l p j (omega (arith, by.round.most)) (even-door by.round L even.0 a j b q.1) o (e (omega arith)) (settles-arc i labs L Ls a j b l s q.1 g) in
      let n = next-at {A = Down S V} (merge by.rule by.tally) (λ x. Unit {0}) (λ x y p. tt) (λ x y p. tt) (arrival_over by) labs L (width Ls) a j b l q.1 g (inside Ls b w q.2) tt in
      rw (← (snoc-assoc p w j)) (paths-sound (suc i) (p ++ (j ∷ [])) w (labels_next by labs L (width Ls)) Ls b n.0 (omega (arith, length-snoc p j)) (settles-next i labs L Ls s).1 n.1
      (exact-next i labs L Ls b n.0 (arrival_over by l j) (p ++ (j ∷ [])) s n.1 (ins-in (arrival_over by) (merge by.rule by.tally) b labs L a j l q.1 g) on.exact) on.sound even.1 q.2)
  paths-sound i p w labs Ls a l t s g e o even q = absurd q

  pub paths-allowed : (D : Net) (w : List ℕ) → length D ≡ by.round.n → IsEven by.round.n D → settled by D ≡ true → PathFrom D 0 w → IsAllowed by.round Keeps w
  unfolding settled
  paths-allowed D w t even s q =
      let o = paths-sound 0 [] w (first_labels by.rule by.tally) D 0 (first_label by.rule by.tally) (omega arith) s refl (λ h. exact-first) sound_none even q in
      record { whole = path-length D 0 w q ∙ t; part = o.told.part; keeps = o.keeps; timely = o.timely }

  -- ---- the bound is the cost of a path
  module _ (D : Net) where
    record Reached (Ls : Net) (k a : ℕ) (l : Down S V) : Type 0 where
      way : List ℕ
      leads : (w : List ℕ) → PathFrom Ls a w → PathFrom D 0 (way ++ w)
      sound : Sound way
      exact : 1 ≤ length Ls → Exact l way
      worth : l.value ≡ cost by.round by.tally way
      long : length way ≡ k

    -- to whatever gathered it: one of the arrivals has its value
    over : (Ls : Net) (L : Layer) (i k : ℕ) (labs : List (Option (Down S V))) (b : ℕ) (m : Down S V) → k < 16 → EvenLayer by.round.n L → settles by i labs (L ∷ Ls) ≡ true
        → ((a : ℕ) (l : Down S V) → get_or labs a None ≡ Some l → Reached (L ∷ Ls) k a l) → get_or (labels_next by labs L (width Ls)) b None ≡ Some m → Reached Ls (suc k) b m
    unfolding labels_next
    over Ls L i k labs b m h even s reach e =
        let v = value-gather (arrivals_at (arrival_over by) b labs L) m (next-some (arrival_over by) (merge by.rule by.tally) labs L (width Ls) b m e) in
        let f = ins-from (arrival_over by) b labs L v.0 v.1 in
        let c = reach f.source f.label f.labelled in
        let on = onward f.label c.way f.door (omega (arith, c.long)) (even-door by.round L even f.source f.door b f.arc) c.sound (c.exact (omega arith))
        (settles-arc i labs L Ls f.source f.door b f.label s f.arc f.labelled) in record {
          way = c.way ++ (f.door ∷ []);
          leads = λ w q. rw (snoc-assoc c.way w f.door) (c.leads (f.door ∷ w) (b, f.arc, q));
          sound = on.sound;
          exact = exact-next i labs L Ls b m v.0 (c.way ++ (f.door ∷ [])) s e v.1 (subst (λ (x : Down S V). Exact x (c.way ++ (f.door ∷ []))) (sym f.is) on.exact);
          worth = sym v.2 ∙ ap (λ (x : Down S V). x.value) f.is ∙ on.worth c.worth;
          long = length-snoc c.way f.door ∙ ap suc c.long;
        }

    attain : (i k : ℕ) (labs : List (Option (Down S V))) (Ls : Net) (l : Down S V) → k + length Ls ≡ by.round.n → settles by i labs Ls ≡ true → IsEven by.round.n Ls
        → ((a : ℕ) (l : Down S V) → get_or labs a None ≡ Some l → Reached Ls k a l) → end_label (arrival_over by) (merge by.rule by.tally) labs Ls ≡ Some l
        → (w : List ℕ) × PathFrom D 0 w × (cost by.round by.tally w ≡ l.value)
    unfolding end_label labels_next
    attain i k labs [] l t s even reach g = let c = reach 0 l g in (c.way ++ [], c.leads [] refl, ap (cost by.round by.tally) (append-nil c.way) ∙ sym c.worth)
    attain i k labs (L ∷ Ls) l t s even reach g =
        attain (suc i) (suc k) (labels_next by labs L (width Ls)) Ls l (omega arith) (settles-next i labs L Ls s).1 even.1 (λ b m e. over Ls L i k labs b m (omega (arith, by.round.most)) even.0 s reach e) g

    pub bound-attained : (v : V) → length D ≡ by.round.n → IsEven by.round.n D → settled by D ≡ true → bound by D ≡ Some v → (w : List ℕ) × PathFrom D 0 w × (cost by.round by.tally w ≡ v)
    unfolding settled bound
    bound-attained v t even s e =
        let start = first-only (first_label by.rule by.tally) (λ a l. Reached D 0 a l) (record { way = []; leads = λ w q. q; sound = sound_none; exact = λ h. exact-first; worth = refl; long = refl }) in
        let o = end_label (arrival_over by) (merge by.rule by.tally) (first_labels by.rule by.tally) D in
        elim o as (λ x. o ≡ x → valueO by x ≡ Some v → (w : List ℕ) × PathFrom D 0 w × (cost by.round by.tally w ≡ v)) [
          | None ↦ λ f g. absurd cc
          | Some l ↦ λ f g. let y : l.value ≡ v = cc in let c = attain 0 0 (first_labels by.rule by.tally) D l (omega arith) s even start f in (c.0, c.1, c.2 ∙ y)
        ] refl e
