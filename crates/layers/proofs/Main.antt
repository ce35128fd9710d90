-- The claim: no call loses an allowed order that no ceiling rules out, what must answers, what a settled diagram shows, and what the labels mean.
use Rattle.std.proofs.Common.{◌≡◌, ℕ, ◌-◌, ◌≤◌, true, List, [], ◌∷◌, Some, sym, ap, ◌∙◌, inl, inr, arith, zero, suc, Bool, false, not, ◌++◌, length, get_or, None, Option, refl, subst, append-nil, ◌+◌, eqb, ◌⊎◌, fold, ◌<◌, drop, le_of_suc-le-suc, not-suc-le-zero}
use Rattle.std.proofs.lemmas.Bool.Decides.{nat_tests}
use Rattle.std.proofs.lemmas.Bool.{both_ways, not-true, not-false, false≢true, eqb-true, eq-eqb, and_parts, or_cases, cases_eq}
use Rattle.rules.specs.Rules.{RuleLaws, RuleSense}
use Rattle.tallies.specs.Tallies.{TallyLaws, TallySense}
use Rattle.orders.specs.Allowed.{IsAllowed}
use Rattle.orders.specs.Costs.{cost, next_trip, trip_after}
use Rattle.layers.specs.Lawful.{IsEven, IsLawful, IsTied}
use Rattle.layers.specs.declared.node.Node.{Node}
use Rattle.layers.specs.Net.{Layer, Net, PathFrom, has_path_with, table, target, width, Outs, node, still_sought, any_door}
use Rattle.layers.specs.declared.call.Call.{Call}
use Rattle.layers.specs.Calls.{arcs, after_open, after_calls, records_with, bound, must, is_settled, EachCut, layer}
use Rattle.layers.specs.Claim.{MustMeans, NothingLost, NothingFalse, ClaimAlwaysHolds, LabelsStand, SettledMeans, StandsAhead}
use Rattle.layers.proofs.Model.{bound as boundOf, settled as settled_of, cuts, cut, valueO, labels_at, or_blank, or_no_up}
use Rattle.layers.proofs.Standing.{Reached, arcs-of, bound-X, settled-X, settled-means-X, after_end, run-reached, KeptOnArcs, reached, opened-reached, X, full, nodes-X, arcs-X}
use Rattle.layers.specs.Settings.{Setting, setting}
use Rattle.doors.specs.Orders.{IsDoor, IsPartOrder, StandsIn}
use Rattle.round.proofs.Clocks.{clock-laws}
use Rattle.round.specs.Clock.{drive, latest_finish}
use Rattle.layers.specs.Flow.{end_label}
use Rattle.layers.specs.Labels.{arrival_over, merge, first_labels, labels_next, is_above_ceiling, opening_arcs, all_doors, ups, end_up, bit_of, first_label}
use Rattle.layers.proofs.Flows.{table_at, tidy-keeps, first-only, EvenLayer, next-all, next-at}
use Rattle.layers.proofs.Lates.{backsweep_keeps, last-minute}
use Rattle.layers.proofs.Ups.{ups-all}
use Rattle.layers.proofs.Ways.{trip-snoc, length-snoc, snoc-assoc, or_left, or_right, or_split, one-self, one_only, none_has}
use Rattle.layers.proofs.Walk.{within, Going, going_next, Told, told-next, At, going-facts, OnWay, way_next, way-fits, filter-keeps, setting-out, sweep-keeps, paths-allowed, bound-attained, Good, path-up, good-first, good-next, Tells, Longer, at_front, at_back, tells-step, tells-left, tells-right}
use Rattle.layers.proofs.Proper.{part-edited, join-edited}
use Rattle.layers.specs.declared.node.Down.{Down}
use Rattle.doors.proofs.Sets.{part_length, digit_and, has-true, true-has}
use Rattle.layers.proofs.Tidying.{path-push, ranged-at, leads-at}
use Rattle.layers.specs.Records.{record_of_place}
use Rattle.layers.specs.LabelLaws.{LeadsTo, Labelled, LabelsMean, PathTo, OnEvery, OnOne, Exactly}
use Rattle.layers.proofs.Bridge.{Labs, Full, top, stood, table-long, end-top}
use lib.Bits.{bit_and, bit_or}
use Rattle.doors.specs.Sets.{has}
use Rattle.layers.specs.declared.node.Up.{Up}

any-in : (f : ℕ → ℕ → Bool) (j : ℕ) (ts : Outs) (k m b : ℕ) → j + k ≡ m → get_or ts k 0 ≡ suc b → f m b ≡ true → any_door f j ts ≡ true
unfolding any_door
any-in f j [] k m b h e t = absurd (omega arith)
any-in f j (s ∷ ts) k m b h e t = grind (arith, e, t, any-in f (suc j) ts)

any-from : (f : ℕ → ℕ → Bool) (j : ℕ) (ts : Outs) → any_door f j ts ≡ true → (k : ℕ) × (b : ℕ) × (get_or ts k 0 ≡ suc b) × (f (j + k) b ≡ true)
unfolding any_door
any-from f j [] e = absurd (false≢true e)
any-from f j (zero ∷ ts) e = let q = any-from f (suc j) ts e in (suc q.0, q.1, q.2, ap (λ (x : ℕ). f x q.1) (omega arith) ∙ q.3)
any-from f j (suc c ∷ ts) e = elim (or_cases (f j c) (any_door f (suc j) ts) e) [
  | inl h ↦ (0, c, refl, ap (λ (x : ℕ). f x c) (omega arith) ∙ h)
  | inr h ↦ (let q = any-from f (suc j) ts h in (suc q.0, q.1, q.2, ap (λ (x : ℕ). f x q.1) (omega arith) ∙ q.3))
]

seeks-in : (Ls : Net) (a : ℕ) (gs w : List ℕ) → PathFrom Ls a w → fold still_sought gs w ≡ [] → has_path_with Ls a gs ≡ true
unfolding has_path_with
seeks-in [] a gs [] p e = rw (eq-eqb a 0 p, e) refl
seeks-in (L ∷ Ls) a gs (zero ∷ w) p e = absurd (omega (arith, p.1))
seeks-in (L ∷ Ls) a gs (suc k ∷ w) p e = any-in (λ j b. has_path_with Ls b (still_sought gs j)) 1 (node L a) k (suc k) p.0 (omega arith) p.1 (seeks-in Ls p.0 (still_sought gs (suc k)) w p.2 e)
seeks-in Ls a gs w p e = absurd p

seeks-from : (Ls : Net) (a : ℕ) (gs : List ℕ) → has_path_with Ls a gs ≡ true → (w : List ℕ) × PathFrom Ls a w × (fold still_sought gs w ≡ [])
unfolding has_path_with
seeks-from [] a [] e = ([], eqb-true a 0 (and_parts (eqb a 0) true e).0, refl)
seeks-from [] a (g ∷ gs) e = absurd (false≢true (and_parts (eqb a 0) false e).1)
seeks-from (L ∷ Ls) a gs e =
    let q = any-from (λ j b. has_path_with Ls b (still_sought gs j)) 1 (node L a) e in
    let j = suc q.0 in
    let x = seeks-from Ls q.1 (still_sought gs j) (subst (λ (z : ℕ). has_path_with Ls q.1 (still_sought gs z) ≡ true) (omega arith) q.3) in
    (j ∷ x.0, (q.1, q.2, x.1), x.2)

-- ---- ahead
hits-nil : (w : List ℕ) → fold still_sought [] w ≡ []
hits-nil [] = refl
hits-nil (k ∷ w) = hits-nil w

hits-one : (i : ℕ) (w : List ℕ) → StandsIn i w → fold still_sought (i ∷ []) w ≡ []
hits-one i [] h = absurd h
hits-one i (k ∷ w) h = grind (arith, nat_tests, h, hits-nil w, hits-one i w)

one-hits : (i : ℕ) (w : List ℕ) → fold still_sought (i ∷ []) w ≡ [] → StandsIn i w
one-hits i [] e = absurd cc
one-hits i (k ∷ w) e = grind (arith, nat_tests, e, one-hits i w)

pub ahead_in : (j i : ℕ) (w : List ℕ) → StandsAhead j i w → StandsIn i w
ahead_in j i [] h = h
ahead_in j i (k ∷ w) h = grind (arith, h, ahead_in j i w)

hits-two : (j i : ℕ) (w : List ℕ) → StandsAhead j i w → fold still_sought (j ∷ i ∷ []) w ≡ []
hits-two j i [] h = absurd h
hits-two j i (k ∷ w) h = grind (arith, nat_tests, h, ahead_in j i w, hits-one i w, hits-two j i w)

two-hits : (j i : ℕ) (w : List ℕ) → fold still_sought (j ∷ i ∷ []) w ≡ [] → StandsAhead j i w
two-hits j i [] e = absurd cc
two-hits j i (k ∷ w) e = grind (arith, nat_tests, e, one-hits i w, two-hits j i w)

pub seen : (Ls : Net) (j i : ℕ) (w : List ℕ) → PathFrom Ls 0 w → StandsAhead j i w → has_path_with Ls 0 (j ∷ i ∷ []) ≡ true
seen Ls j i w p h = seeks-in Ls 0 (j ∷ i ∷ []) w p (hits-two j i w h)

pub sought : (Ls : Net) (j i : ℕ) → has_path_with Ls 0 (j ∷ i ∷ []) ≡ true → (w : List ℕ) × PathFrom Ls 0 w × StandsAhead j i w
sought Ls j i e = let q = seeks-from Ls 0 (j ∷ i ∷ []) e in (q.0, q.1, two-hits j i q.0 q.2)

-- ---- an order of all doors has each door
pub in-or-not : (i : ℕ) (w : List ℕ) → StandsIn i w ⊎ (¬ StandsIn i w)
in-or-not i [] = inr (λ h. h)
in-or-not i (k ∷ w) = grind (arith, nat_tests, in-or-not i w)

pub all_there : (n : ℕ) (w : List ℕ) → length w ≡ n → IsPartOrder n w → (i : ℕ) → IsDoor n i → StandsIn i w
all_there n w e p i h = elim (in-or-not i w) [ inl x ↦ x | inr f ↦ absurd (omega (arith, part_length n (i ∷ w) (h, f, p))) ]

pub one-ahead : (i j : ℕ) (w : List ℕ) → ¬ (i ≡ j) → StandsIn i w → StandsIn j w → StandsAhead i j w ⊎ StandsAhead j i w
one-ahead i j [] n a b = absurd a
one-ahead i j (k ∷ w) n a b = grind (arith, n, a, b, one-ahead i j w n)

module _ {S V : Type 0} {Keeps : List ℕ → Type 0} {Stands : S → List ℕ → Type 0} {Allows : ℕ → V → Type 0} (by : Setting S V) (ruled : RuleLaws by.round.n by.rule Keeps Stands) (tallied : TallyLaws by.round.n by.tally Allows) where
  -- ---- costs only rise
  cost-rises : (p w : List ℕ) → Going by ruled tallied p w → Told by ruled tallied p → by.tally.not_above (cost by.round by.tally p) (cost by.round by.tally (p ++ w)) ≡ true
  cost-rises p [] g t = rw (append-nil p) (tallied.order_self (cost by.round by.tally p))
  cost-rises p (j ∷ w) g t =
      let facts = going-facts by ruled tallied p w j g in
      let rest = cost-rises (p ++ (j ∷ [])) w (going_next by ruled tallied p w j g) (told-next by ruled tallied p j t facts.0 facts.2 facts.1) in
      let dl = by.round.legs (trip_after by.round by.tally p).van.last j in
      let s = (clock-laws by.round).bound (length p) (trip_after by.round by.tally p).van.finish (drive by.round (trip_after by.round by.tally p).van.last j) j t.soon dl in
      let a = tallied.step_above (length p) (cost by.round by.tally p) j (drive by.round (trip_after by.round by.tally p).van.last j) (next_trip by.round by.tally (trip_after by.round by.tally p) j).van.finish facts.2 facts.0 dl (within (length p) _ facts.2 s) t.fine in
      grind (arith, a, rest, trip-snoc by.round by.tally p j, snoc-assoc p w j, tallied.order_chain)

  cut_keeps : (c : V) (w : List ℕ) (Ls : Net) → IsAllowed by.round Keeps w → by.tally.not_above (cost by.round by.tally w) c ≡ true → IsEven by.round.n Ls → PathFrom Ls 0 w → PathFrom (cut by c Ls) 0 w
  unfolding cut arrival_over
  cut_keeps c w Ls o u even q = tidy-keeps (cuts by c 0 (first_labels by.rule by.tally) Ls) w
      (filter-keeps by ruled tallied (is_above_ceiling by.round by.tally c) (λ z. by.tally.not_above (cost by.round by.tally z) c ≡ true) stays (first_labels by.rule by.tally) Ls 0 [] w (setting-out by ruled tallied w Ls o even q) u)
    where
      stays : (labs : List (Option (Down S V))) (L : Layer) (Ls : Net) (a j : ℕ) (p w : List ℕ) (o : OnWay by ruled tallied labs (L ∷ Ls) a p (j ∷ w)) → by.tally.not_above (cost by.round by.tally (p ++ (j ∷ w))) c ≡ true
          → is_above_ceiling by.round by.tally c (length p) (suc (length Ls)) j (get_or labs a None) (get_or (ups by (labels_next by labs L (width Ls)) Ls) o.path.0 None) ≡ false
      stays labs L Ls a j p w o u =
          let f = way-fits by ruled tallied labs L Ls a j p w o in
          let on = way_next by ruled tallied labs L Ls a j p w o in
          let low : by.tally.not_above (arrival_over by f.0 j).value c ≡ true =
          tallied.order_chain _ (cost by.round by.tally (p ++ (j ∷ []))) c f.3.value (tallied.order_chain _ (cost by.round by.tally ((p ++ (j ∷ [])) ++ w)) c (cost-rises (p ++ (j ∷ [])) w on.going on.told) (rw (snoc-assoc p w j) u)) in
          rw f.1 (ap not low)

  -- the label at the end fits an allowed order that is a path
  final-fits : (labs : List (Option (Down S V))) (Ls : Net) (a : ℕ) (p w : List ℕ) → OnWay by ruled tallied labs Ls a p w
      → (l : Down S V) × (end_label (arrival_over by) (merge by.rule by.tally) labs Ls ≡ Some l) × (by.tally.not_above l.value (cost by.round by.tally (p ++ w)) ≡ true)
  unfolding end_label At labels_next
  final-fits labs [] a p [] o = let at = o.fits in (at.0, rw (← o.path) at.1, tallied.order_chain _ (cost by.round by.tally p) _ at.2.value (cost-rises p [] o.going o.told))
  final-fits labs (L ∷ Ls) a p (j ∷ w) o =
      let x = final-fits (labels_next by labs L (width Ls)) Ls o.path.0 (p ++ (j ∷ [])) w (way_next by ruled tallied labs L Ls a j p w o) in
      (x.0, x.1, rw (← (snoc-assoc p w j)) x.2)
  final-fits labs Ls a p w o = absurd o.path

  pub bound-below : (w : List ℕ) (Ls : Net) → IsAllowed by.round Keeps w → IsEven by.round.n Ls → PathFrom Ls 0 w → (v : V) × (boundOf by Ls ≡ Some v) × (by.tally.not_above v (cost by.round by.tally w) ≡ true)
  unfolding boundOf
  bound-below w Ls o even q = let x = final-fits (first_labels by.rule by.tally) Ls 0 [] w (setting-out by ruled tallied w Ls o even q) in (x.0.value, ap (valueO by) x.1, x.2)

  module _ (w1 : 1 ≤ by.width) (w : List ℕ) (o : IsAllowed by.round Keeps w) where
    -- each step keeps the path w
    path-kept : (later : List (Node S V)) → KeptOnArcs by w1 later (λ Ls. PathFrom Ls 0 w) (λ c. by.tally.not_above (cost by.round by.tally w) c ≡ true)
    path-kept later = record {
      sweep = λ Ls p q. sweep-keeps by ruled tallied w Ls o p.even q;
      cut = λ c Ls u p q. cut_keeps c w Ls o u p.even q;
      backsweep = λ Ls p q. backsweep_keeps by ruled tallied w Ls o p.even q;
      part = λ d a Ls x y z p q. (part-edited by w1 ruled.same_self d a (labels_at by d (first_labels by.rule by.tally) Ls) Ls x y z).paths 0 w q;
      join = λ d lo hi Ls a b n p q. (join-edited by.round.n by.width d lo hi Ls a b n).paths 0 w q;
    }

    open-door : (j : ℕ) → IsDoor by.round.n j → target (all_doors by.round.n) j ≡ 1
    open-door zero d = absurd (omega (arith, d.low))
    open-door (suc k) d = table_at by.round.n k (λ m. 1) 0 (omega (arith, d.high))

    open-path : (k : ℕ) (v : List ℕ) → IsPartOrder by.round.n v → length v ≡ k → PathFrom (table k (λ i. all_doors by.round.n ∷ [])) 0 v
    open-path zero [] d e = refl
    open-path (suc k) (j ∷ v) d e = (0, open-door j d.0, open-path k v d.2 (omega arith))
    open-path k v d e = absurd (omega arith)

    pub still : (lent : List (Node S V)) (cs : List (Call V)) → EachCut (λ c. by.tally.not_above (cost by.round by.tally w) c ≡ true) cs
        → PathFrom (arcs by.round.n by.width (after_calls by cs (after_open by lent))) 0 w
    unfolding opening_arcs
    still lent cs u =
        let later = after_end by w1 lent in
        let Path : Net → Type 0 = λ Ls. PathFrom Ls 0 w in
        let r = reached by w1 later ruled.same_self Path (λ c. by.tally.not_above (cost by.round by.tally w) c ≡ true) (path-kept later) cs (after_open by lent) u
        (opened-reached by w1 lent Path (open-path by.round.n w o.part o.whole)) in
        rw (arcs-of by w1 later Path _ r) r.holds

pub must-means : {S V : Type 0} (n W i j : ℕ) (xs : List (Node S V)) → MustMeans n W i j xs (must n W i j xs)
unfolding must
must-means n W i j xs = record {
  yes = λ e w p h. both_ways (has_path_with (arcs n W xs) 0 (j ∷ i ∷ [])) (not-true (has_path_with (arcs n W xs) 0 (j ∷ i ∷ [])) e) (seen (arcs n W xs) j i w p h);
  no' = λ e. sought (arcs n W xs) j i (not-false (has_path_with (arcs n W xs) 0 (j ∷ i ∷ [])) e);
}

module _ {S V : Type 0} {Keeps : List ℕ → Type 0} {Stands : S → List ℕ → Type 0} {Allows : ℕ → V → Type 0} (by : Setting S V) (ruled : RuleLaws by.round.n by.rule Keeps Stands) (tallied : TallyLaws by.round.n by.tally Allows) (w1 : 1 ≤ by.width) (lent : List (Node S V)) (cs : List (Call V)) where
  abbrev Y : List (Node S V)
  Y = after_calls by cs (after_open by lent)

  abbrev D : Net
  D = arcs by.round.n by.width Y

  r : Reached by w1 (after_end by w1 lent) (λ Ls. Unit {0}) Y
  r = run-reached by w1 lent ruled.same_self cs

  same : D ≡ r.net
  same = arcs-of by w1 (after_end by w1 lent) (λ Ls. Unit {0}) Y r

  well : IsLawful by.round.n by.width D
  well = rw same r.well

  of-bound : boundOf by D ≡ bound by.round.n by.width Y
  of-bound = rw same (sym (ap (bound by.round.n by.width) r.is ∙ bound-X by w1 (after_end by w1 lent) r.net r.well))

  -- the bound, where w is an allowed order that is a path
  below : (w : List ℕ) → IsAllowed by.round Keeps w → PathFrom D 0 w → (v : V) × (bound by.round.n by.width Y ≡ Some v) × (by.tally.not_above v (cost by.round by.tally w) ≡ true)
  below w o q = let b = bound-below by ruled tallied w D o well.even q in (b.0, sym of-bound ∙ b.1, b.2)

  none-lost : NothingLost by Keeps cs Y
  none-lost = record {
    still = λ w o. still by ruled tallied w1 w o.0 lent cs o.1;
    low = λ w v o e. let b = below w o.0 (still by ruled tallied w1 w o.0 lent cs o.1) in let x : b.0 ≡ v = cc (b.1, e) in rw (← x) b.2;
    low_none = λ e w o. let b = below w o.0 (still by ruled tallied w1 w o.0 lent cs o.1) in let z : ◌≡◌ {A = ℕ} 0 1 = cc (b.1, e) in omega arith;
    must_yes = λ i j di dj ne e w o.
        elim (one-ahead i j w ne (all_there by.round.n w o.0.whole o.0.part i di) (all_there by.round.n w o.0.whole o.0.part j dj)) [
          | inl h ↦ h
          | inr h ↦ absurd ((must-means by.round.n by.width i j Y).yes e w (still by ruled tallied w1 w o.0 lent cs o.1) h)
        ];
  }

  none-false : is_settled by Y ≡ true → NothingFalse by Keeps cs Y
  none-false s =
      let s' : settled_of by D ≡ true = rw same (sym (ap (is_settled by) r.is ∙ settled-X by w1 (after_end by w1 lent) r.net r.well) ∙ s) in
      let ok : (w : List ℕ) → PathFrom D 0 w → IsAllowed by.round Keeps w = λ w q. paths-allowed by ruled tallied D w well.deep well.even s' q in
      record {
        allowed = ok;
        least = λ v e. bound-attained by ruled tallied D v well.deep well.even s' (of-bound ∙ e);
        least_of = λ v e w q. let b = below w (ok w q) q in let x : b.0 ≡ v = cc (b.1, e) in rw (← x) b.2;
        least_none = λ e w q. let b = below w (ok w q) q in let z : ◌≡◌ {A = ℕ} 0 1 = cc (b.1, e) in omega arith;
        must_no = λ i j e. (must-means by.round.n by.width i j Y).no' e;
      }

pub kept : {S V : Type 0} {Keeps : List ℕ → Type 0} {Stands : S → List ℕ → Type 0} {Allows : ℕ → V → Type 0} (A B : ℕ → Type 0) (rule : RuleSense S) (tally : TallySense V)
    → ((n : ℕ) → A n → RuleLaws n rule Keeps Stands) → ((n : ℕ) → B n → TallyLaws n tally Allows) → ClaimAlwaysHolds A rule Keeps B tally
kept A B rule tally ruled tallied r e f W a b lent cs =
    let by = setting r rule tally W in
    record { nothing_lost = none-lost by (ruled r.n e) (tallied r.n f) a lent cs; nothing_false = none-false by (ruled r.n e) (tallied r.n f) a lent cs }

pub worked-out : {S V : Type 0} {Keeps : List ℕ → Type 0} {Stands : S → List ℕ → Type 0} (A : ℕ → Type 0) (rule : RuleSense S) (tally : TallySense V) → ((n : ℕ) → A n → RuleLaws n rule Keeps Stands) → LabelsStand A rule tally
unfolding records_with
worked-out A rule tally ruled r e W a b lent cs =
    let by = setting r rule tally W in
    let q = run-reached by a lent (ruled r.n e).same_self cs in
    q.is ∙ rw (arcs-of by a (after_end by a lent) (λ Ls. Unit {0}) (after_calls by cs (after_open by lent)) q)

pub settled-means : {S V : Type 0} {Keeps : List ℕ → Type 0} {Stands : S → List ℕ → Type 0} (A : ℕ → Type 0) (rule : RuleSense S) (tally : TallySense V) → ((n : ℕ) → A n → RuleLaws n rule Keeps Stands) → SettledMeans A rule tally
settled-means A rule tally ruled r e W a b lent cs =
    let by = setting r rule tally W in
    let q = run-reached by a lent (ruled r.n e).same_self cs in
    rw q.is (settled-means-X by a (after_end by a lent) q.net q.well)

and_both : (a b j : ℕ) → has a j ≡ true → has b j ≡ true → has (bit_and a b) j ≡ true
and_both a b j x y = true-has (bit_and a b) j (omega (arith, digit_and a b j, has-true a j x, has-true b j y))

-- ---- the sets of a label, and the paths P
-- what the label has is owed to the paths
pub record Owed (all some : ℕ) (P : List ℕ → Type 0) : Type 0 where
  pub way : (w : List ℕ) × P w
  pub all-if : (j : ℕ) → ((w : List ℕ) → P w → StandsIn j w) → has all j ≡ true
  pub some-from : (j : ℕ) → has some j ≡ true → OnOne P j

pub all-exact : (all some : ℕ) (P : List ℕ → Type 0) → Owed all some P → ((w : List ℕ) → P w → Tells all some w) → Exactly all (OnEvery P)
all-exact all some P o t j = (λ h. (o.way, λ w p. (t w p).all_in j (true-has all j h)), λ h. has-true all j (o.all-if j h.1))

pub some-exact : (all some : ℕ) (P : List ℕ → Type 0) → Owed all some P → ((w : List ℕ) → P w → Tells all some w) → Exactly some (OnOne P)
some-exact all some P o t j = (λ h. o.some-from j (true-has some j h), λ h. has-true some j ((t h.0 h.1).in_some j h.2))

owed-merge : (a s a' s' : ℕ) (P : List ℕ → Type 0) → Owed a s P → Owed a' s' P → Owed (bit_and a a') (bit_or s s') P
owed-merge a s a' s' P x y = grind (arith, x, y, and_both, or_split)

owed-step : (a s k : ℕ) (P Q : List ℕ → Type 0) (more : List ℕ → List ℕ) → Longer k more → ((w : List ℕ) → P w → Q (more w)) → Owed a s P → Owed (bit_or a (bit_of k)) (bit_or s (bit_of k)) Q
owed-step a s k P Q more l to o = record {
  way = (more o.way.0, to o.way.0 o.way.1);
  all-if = λ j f. elim (cases_eq j k) [
    | inl e ↦ or_right a (bit_of k) j (rw e (one-self k))
    | inr n ↦ or_left a (bit_of k) j (o.all-if j (λ w p. elim (l.only j w (f (more w) (to w p))) [ inl h ↦ h | inr e ↦ absurd (n e) ]))
  ];
  some-from = λ j h. elim (or_split s (bit_of k) j h) [
    | inl x ↦ let q = o.some-from j x in (more q.0, to q.0 q.1, l.stays j q.0 q.2)
    | inr x ↦ (more o.way.0, to o.way.0 o.way.1, rw (one_only k j x) (l.here o.way.0))
  ];
}

-- ---- paths to a node
-- the last arc of a path
record Last (D : Net) (x d b : ℕ) (w : List ℕ) : Type 0 where
  before : List ℕ
  door : ℕ
  source : ℕ
  is : w ≡ before ++ (door ∷ [])
  path : PathTo D x before source
  long : length before ≡ d
  arc : target (node (get_or D d []) source) door ≡ suc b

path-last : (D : Net) (x d b : ℕ) (w : List ℕ) → PathTo D x w b → length w ≡ suc d → Last D x d b w
path-last (L ∷ Ls) x zero b (j ∷ []) q e = record { before = []; door = j; source = x; is = refl; path = refl; long = refl; arc = q.1 ∙ ap suc q.2 }
path-last (L ∷ Ls) x (suc d) b (j ∷ w) q e =
    let s = path-last Ls q.0 d b w q.2 (omega arith) in
    record { before = j ∷ s.before; door = s.door; source = s.source; is = ap (λ (z : List ℕ). j ∷ z) s.is; path = (q.0, q.1, s.path); long = ap suc s.long; arc = s.arc }
path-last [] x d b (j ∷ w) q e = absurd q
path-last D x d b w q e = absurd (omega arith)

even-at : (n : ℕ) (D : Net) (d : ℕ) → IsEven n D → d < length D → EvenLayer n (get_or D d [])
even-at n [] d s h = absurd (not-suc-le-zero h)
even-at n (L ∷ Ls) zero s h = s.0
even-at n (L ∷ Ls) (suc d) s h = even-at n Ls d s.1 (le_of_suc-le-suc h)

-- ---- downward
module _ {S V : Type 0} {Keeps : List ℕ → Type 0} {Stands : S → List ℕ → Type 0} (by : Setting S V) (ruled : RuleLaws by.round.n by.rule Keeps Stands) (w1 : 1 ≤ by.width) where
  abbrev LabsAt : ℕ → Net → Labs by w1
  LabsAt d D = labels_at by d (first_labels by.rule by.tally) D

  labs-step : (d : ℕ) (labs : Labs by w1) (Ls : Net) → d < length Ls
      → labels_at by (suc d) labs Ls ≡ labels_next by (labels_at by d labs Ls) (get_or Ls d []) (width (drop (suc d) Ls))
  labs-step d labs [] h = absurd (not-suc-le-zero h)
  labs-step d labs (L ∷ Ls) h = grind (arith, h, labs-step (d - 1) (labels_next by labs L (width Ls)) Ls)

  module _ (D : Net) where
    -- a label is owed to the paths to its node
    pub owed-at : (d : ℕ) → d ≤ length D → (a : ℕ) (l : Down S V) → get_or (LabsAt d D) a None ≡ Some l → Owed l.all l.some (LeadsTo D d a)
    unfolding labels_next arrival_over merge
    owed-at zero h a l e =
        first-only (first_label by.rule by.tally) (λ a l. Owed l.all l.some (LeadsTo D 0 a)) (record { way = ([], (refl, refl)); all-if = λ j f. absurd (f [] (refl, refl)); some-from = λ j g. absurd (none_has j g) }) a l e
    owed-at (suc d) h b m e =
        let L = get_or D d [] in
        let n = width (drop (suc d) D) in
        let e' : get_or (labels_next by (LabsAt d D) L n) b None ≡ Some m = ap (λ (z : Labs by w1). get_or z b None) (sym (labs-step d (first_labels by.rule by.tally) D h)) ∙ e in
        next-all (arrival_over by) (merge by.rule by.tally) (LabsAt d D) L n b m (λ x. Owed x.all x.some (LeadsTo D (suc d) b)) (λ x y p q. owed-merge x.all x.some y.all y.some (LeadsTo D (suc d) b) p q)
        (λ a j l f g. owed-step l.all l.some j (LeadsTo D d a) (LeadsTo D (suc d) b) (λ w. w ++ (j ∷ [])) (at_back j)
        (λ w q. (path-push D 0 a j b w q.0 (rw q.1 f), length-snoc w j ∙ ap suc q.1)) (owed-at d (omega arith) a l g)) e'

    -- a path to a node is told by its label
    pub tells_at : IsTied D → (d : ℕ) → d ≤ length D → (a : ℕ) (w : List ℕ) → LeadsTo D d a w → (l : Down S V) × (get_or (LabsAt d D) a None ≡ Some l) × Tells l.all l.some w
    unfolding labels_next arrival_over merge
    tells_at t zero h a [] q = (first_label by.rule by.tally, ap (λ (z : ℕ). get_or (first_labels by.rule by.tally) z None) (sym q.0), record { all_in = λ j g. absurd (none_has j g); in_some = λ j i. absurd i })
    tells_at t zero h a (j ∷ w) q = absurd (omega (arith, q.1))
    tells_at t (suc d) h b w q =
        let L = get_or D d [] in
        let n = width (drop (suc d) D) in
        let s = path-last D 0 d b w q.0 q.1 in
        let x = tells_at t d (omega arith) s.source s.before (s.path, s.long) in
        let z = subst (Tells (bit_or x.0.all (bit_of s.door)) (bit_or x.0.some (bit_of s.door))) (sym s.is) (tells-step x.0.all x.0.some s.door (λ w. w ++ (s.door ∷ [])) s.before (at_back s.door) x.2) in
        let y = next-at {A = Down S V} (merge by.rule by.tally) (λ x. Tells x.all x.some w) (λ x y. tells-left x.all x.some y.all y.some w) (λ x y. tells-right x.all x.some y.all y.some w)
        (arrival_over by) (LabsAt d D) L n s.source s.door b x.0 s.arc x.1 (ranged-at D d t h s.source s.door b s.arc) z in
        (y.0, rw (labs-step d (first_labels by.rule by.tally) D h) y.1, y.2)

    -- values and finishes
    pub good-at : {Allows : ℕ → V → Type 0} (tallied : TallyLaws by.round.n by.tally Allows) → length D ≤ 16 → IsEven by.round.n D → (d : ℕ) → d ≤ length D → Good by ruled tallied d (LabsAt d D)
    good-at tallied k s zero h = good-first by ruled tallied
    good-at tallied k s (suc d) h =
        rw (labs-step d (first_labels by.rule by.tally) D h) (good-next by ruled tallied d (LabsAt d D) (get_or D d []) (width (drop (suc d) D)) (omega arith) (good-at tallied k s d (omega arith)) (even-at by.round.n D d s h))

-- ---- upward
module _ {S V : Type 0} (by : Setting S V) where
  owed-up : (labs : List (Option (Down S V))) (Ls : Net) (a : ℕ) (u : Up) → get_or (ups by labs Ls) a None ≡ Some u → Owed u.allup u.someup (PathFrom Ls a)
  unfolding ups
  owed-up labs [] a u e =
      first-only end_up (λ a u. Owed u.allup u.someup (PathFrom [] a)) (record { way = ([], refl); all-if = λ j f. absurd (f [] refl); some-from = λ j g. absurd (none_has j g) }) a u e
  owed-up labs (L ∷ Ls) a u e =
      ups-all by labs L Ls a u (λ x. Owed x.allup x.someup (PathFrom (L ∷ Ls) a)) (λ x y p q. owed-merge x.allup x.someup y.allup y.someup (PathFrom (L ∷ Ls) a) p q)
      (λ j b v f g. owed-step v.allup v.someup j (PathFrom Ls b) (PathFrom (L ∷ Ls) a) (λ w. j ∷ w) (at_front j) (λ w q. (b, f, q)) (owed-up (labels_next by labs L (width Ls)) Ls b v g)) e

  tells-up : (labs : List (Option (Down S V))) (Ls : Net) (a : ℕ) (u : Up) → get_or (ups by labs Ls) a None ≡ Some u → (w : List ℕ) → PathFrom Ls a w → Tells u.allup u.someup w
  tells-up labs Ls a u e w p =
      let q = path-up by labs Ls a w p in
      let x : q.0 ≡ u = cc q.1 in
      rw (← x) q.2

  -- the sets of a node, also of one from which no path leads to the end
  pub up-exact : (labs : List (Option (Down S V))) (Ls : Net) (a : ℕ) → let u = or_no_up (get_or (ups by labs Ls) a None) in Exactly u.allup (OnEvery (PathFrom Ls a)) × Exactly u.someup (OnOne (PathFrom Ls a))
  up-exact labs Ls a = elim (get_or (ups by labs Ls) a None) as (λ o. get_or (ups by labs Ls) a None ≡ o → Exactly (or_no_up o).allup (OnEvery (PathFrom Ls a)) × Exactly (or_no_up o).someup (OnOne (PathFrom Ls a))) [
    | None ↦ λ e. let no : (w : List ℕ) → PathFrom Ls a w → ⊥ = λ w p. let q = path-up by labs Ls a w p in let z : ◌≡◌ {A = ℕ} 0 1 = cc q.1 in omega arith in
        (λ j. (λ h. absurd (none_has j (true-has 0 j h)), λ h. absurd (no h.0.0 h.0.1)), λ j. (λ h. absurd (none_has j (true-has 0 j h)), λ h. absurd (no h.0 h.1)))
    | Some u ↦ λ e. let o = owed-up labs Ls a u e in let t = tells-up labs Ls a u e in (all-exact u.allup u.someup (PathFrom Ls a) o t, some-exact u.allup u.someup (PathFrom Ls a) o t)
  ] refl

module _ {S V : Type 0} {Keeps : List ℕ → Type 0} {Stands : S → List ℕ → Type 0} (by : Setting S V) (ruled : RuleLaws by.round.n by.rule Keeps Stands) (w1 : 1 ≤ by.width) where
  -- a record that stands in the first of these layers has the labels worked out
  record Stands-at (labs : Labs by w1) (Ls : Net) (a : ℕ) (x : Node S V) : Type 0 where
    inner : a < width Ls
    label : Down S V
    labelled : get_or labs a None ≡ Some label
    down : x.label.down ≡ label
    up : x.label.up ≡ or_no_up (get_or (ups by labs Ls) a None)

  top-at : (labs : Labs by w1) (Ls : Net) (a : ℕ) (other : Node S V) → Full by w1 labs Ls → a < length (top by w1 labs Ls)
      → Stands-at labs Ls a (get_or (top by w1 labs Ls) a other)
  top-at labs [] a other f h = elim (get_or labs 0 None) as (λ o. get_or labs 0 None ≡ o → Stands-at labs [] a (get_or (top by w1 labs []) a other)) [
    | None ↦ λ e. absurd (omega (arith, rw e at h))
    | Some l ↦ λ e.
        let s = end-top by w1 labs l e (f 0 l e) in
        let z : a ≡ 0 = omega (arith, ap (λ (N : List (Node S V)). length N) s) in
        rw (s, z) (record { inner = omega arith; label = l; labelled = e; down = refl; up = unfold ups in refl })
  ] refl
  top-at labs (L ∷ Ls) a other f h =
      let F = record_of_place by L labs (ups by labs (L ∷ Ls)) in
      let k : a < length L = omega (arith, table-long (length L) F) in
      let x = f.0.filled.there a k in
      let e = table_at (length L) a F other k in
      record { inner = k; label = x.0; labelled = x.1; down = rw e (ap (or_blank by.rule by.tally) x.1); up = ap (λ (y : Node S V). y.label.up) e }

  -- the same in layer d
  full_at : (d : ℕ) (labs : Labs by w1) (Ls : Net) → d ≤ length Ls → Full by w1 labs Ls → Full by w1 (labels_at by d labs Ls) (drop d Ls)
  full_at zero labs Ls h f = f
  full_at (suc d) labs [] h f = absurd (not-suc-le-zero h)
  full_at (suc d) labs (L ∷ Ls) h f = full_at d (labels_next by labs L (width Ls)) Ls (le_of_suc-le-suc h) f.1

  stood-top : (d : ℕ) (labs : Labs by w1) (Ls : Net) → d ≤ length Ls → get_or (stood by w1 labs Ls) d [] ≡ top by w1 (labels_at by d labs Ls) (drop d Ls)
  stood-top d labs [] h = grind (arith, h)
  stood-top d labs (L ∷ Ls) h = grind (arith, h, stood-top (d - 1) (labels_next by labs L (width Ls)) Ls)

  module _ {Allows : ℕ → V → Type 0} (tallied : TallyLaws by.round.n by.tally Allows) where
    -- on the arcs
    labelled : (D : Net) → IsLawful by.round.n by.width D → (i a : ℕ) (x : Node S V) → i ≤ length D
        → Stands-at (labels_at by i (first_labels by.rule by.tally) D) (drop i D) a x → Labelled by.round Allows D i a x
    labelled D p i a x h s =
        let o = owed-at by ruled w1 D i h a s.label s.labelled in
        let t : (w : List ℕ) → LeadsTo D i a w → Tells s.label.all s.label.some w =
        λ w q. let y = tells_at by ruled w1 D p.tied i h a w q in let e : y.0 ≡ s.label = cc (y.1, s.labelled) in rw (← e) y.2 in
        let g : Allows i s.label.value × (s.label.finish ≤ latest_finish i) = unfold Good in good-at by ruled w1 D tallied (omega (arith, p.deep, by.round.most)) p.even i h a s.label s.labelled in
        let u = up-exact by (labels_at by i (first_labels by.rule by.tally) D) (drop i D) a in
        record {
          reached = o.way;
          leads = λ lo. leads-at D i a p.tied lo h s.inner;
          all = rw s.down (all-exact s.label.all s.label.some (LeadsTo D i a) o t);
          some = rw s.down (some-exact s.label.all s.label.some (LeadsTo D i a) o t);
          allup = rw s.up u.0;
          someup = rw s.up u.1;
          finish = rw s.down g.1;
          late = rw s.up (last-minute by D p i a h);
          value = rw s.down g.0;
        }

    -- on the records
    labelled-X : (later : List (Node S V)) (D : Net) → IsLawful by.round.n by.width D → (i a : ℕ) (other : Node S V) → i ≤ by.round.n
        → let Y = X by w1 later D in a < length (layer by.round.n by.width i Y) → Labelled by.round Allows (arcs by.round.n by.width Y) i a (get_or (layer by.round.n by.width i Y) a other)
    labelled-X later D p i a other h k =
        let labs = labels_at by i (first_labels by.rule by.tally) D in
        let h' : i ≤ length D = omega (arith, p.deep) in
        let e : layer by.round.n by.width i (X by w1 later D) ≡ top by w1 labs (drop i D) = rw (nodes-X by w1 later D p) (stood-top i (first_labels by.rule by.tally) D h') in
        let s = top-at labs (drop i D) a other (full_at i (first_labels by.rule by.tally) D h' (full by w1 later D p)) (rw (← e) k) in
        rw (arcs-X by w1 later D p, e) (labelled D p i a (get_or (top by w1 labs (drop i D)) a other) h' s)

pub labels-mean : {S V : Type 0} {Keeps : List ℕ → Type 0} {Stands : S → List ℕ → Type 0} {Allows : ℕ → V → Type 0} (A B : ℕ → Type 0) (rule : RuleSense S) (tally : TallySense V)
    → ((n : ℕ) → A n → RuleLaws n rule Keeps Stands) → ((n : ℕ) → B n → TallyLaws n tally Allows) → LabelsMean A rule B tally Allows
labels-mean {S} {V} {Allows} A B rule tally ruled tallied r e f W lo hi lent cs =
    let by = setting r rule tally W in
    let q = run-reached by lo lent (ruled r.n e).same_self cs in
    rw q.is (labelled-X by (ruled r.n e) lo (tallied r.n f) (after_end by lo lent) q.net q.well)
