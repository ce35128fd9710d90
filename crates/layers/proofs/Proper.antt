-- The arcs that opening lays are lawful, and filters, parting and joining keep lawful arcs so; part and join keep every path.
use Rattle.std.proofs.Common.{◌≡◌, ℕ, zero, suc, ◌-◌, ◌<◌, ◌≤◌, Bool, true, false, cond, not, ◌&&◌, eqb, ◌⊎◌, List, [], ◌∷◌, ◌++◌, length, get_or, set, Some, None, Option, sym, refl, ap, ◌∙◌, inl, inr, arith, length-set}
use Rattle.std.proofs.lemmas.Bool.Decides.{nat_tests}
use Rattle.std.proofs.lemmas.Bool.{true≢false, eqb-true, eq-eqb, ne_eqb, cases_lt, cases_eq, and_cases, and_parts}
use Rattle.std.proofs.lemmas.List.{get_or_append_left, get_or_push, get_or-set_same, get_or-set_other}
use Rattle.layers.specs.Net.{table, Outs, Layer, Net, node, target, redirect, width, PathFrom}
use Rattle.layers.specs.Flow.{arrivals_at}
use Rattle.layers.specs.Join.{clash, either_target, both_out, without_place, place_after_join, joined_arcs, targets_differ}
use Rattle.layers.specs.Lawful.{IsRanged, IsFed, IsLed, IsTied, IsRoomy, IsEven, IsLawful}
use Rattle.layers.specs.Labels.{arrival_over, agree, agrees_with_all, all_agree, differs_from_first, first_arrival, opening_arcs, all_doors}
use Rattle.layers.specs.Calls.{parted_arcs, arrivals, LayerLabels, kept_arcs}
use Rattle.layers.proofs.Flows.{EvenLayer, Among, redirect-arc, has-arc, table_at, From, ins-from, table-long, compress-at}
use Rattle.layers.proofs.Ways.{length-snoc}
use Rattle.layers.proofs.Tied.{redirect-back, redirect-length, redirect-long, compress-back, tidied-tied, kept-back}
use Rattle.layers.specs.Settings.{Setting}
use Rattle.layers.specs.declared.node.Down.{Down}
use Rattle.layers.proofs.Model.{moved}
use Rattle.layers.specs.Tidy.{Mark, marks_next, marks_up, flags, compress, renumber, tidy, tidied_arcs}
use Rattle.layers.specs.declared.node.Up.{Up}

module _ {S V : Type 0} (by : Setting S V) where
  pub part-keeps : (a : ℕ) (labs : List (Option (Down S V))) (L M : Layer) (Ls : Net) (x : ℕ) (w : List ℕ) → PathFrom (L ∷ M ∷ Ls) x w → PathFrom (redirect (moved by a labs L (length M)) L ∷ (M ++ (node M a ∷ [])) ∷ Ls) x w
  part-keeps a labs L M Ls x [] p = absurd p
  part-keeps a labs L M Ls x (j ∷ []) p = absurd p.2
  part-keeps a labs L M Ls x (j ∷ k ∷ w) p =
      let t = eqb p.0 a && differs_from_first by (first_arrival (arrivals by labs L a)) (get_or labs x None) j in
      elim t as (λ q. t ≡ q → PathFrom (redirect (moved by a labs L (length M)) L ∷ (M ++ (node M a ∷ [])) ∷ Ls) x (j ∷ k ∷ w)) [
        | true ↦ λ e. let same = eqb-true p.0 a (and_parts (eqb p.0 a) _ e).0 in
            (length M, redirect-arc _ L x j p.0 p.1 ∙ rw e refl, (p.2.0, rw (get_or_push M (node M a) [] (length M) refl, ← same) p.2.1, p.2.2))
        | false ↦ λ e. (p.0, redirect-arc _ L x j p.0 p.1 ∙ rw e refl, (p.2.0, rw (get_or_append_left M (node M a ∷ []) [] p.0 (has-arc M p.0 k p.2.0 p.2.1)) p.2.1, p.2.2))
      ] refl

-- ---- join
pub drop-below : (i b : ℕ) (M : Layer) → b < i → node (without_place i M) b ≡ node M b
unfolding without_place
drop-below i b [] h = grind arith
drop-below i b (x ∷ M) h = grind (arith, h, drop-below (i - 1) (b - 1) M)

pub drop-above : (i b : ℕ) (M : Layer) → i ≤ b → node (without_place i M) b ≡ node M (suc b)
unfolding without_place
drop-above i b [] h = grind arith
drop-above i b (x ∷ M) h = grind (arith, h, drop-above (i - 1) (b - 1) M)

-- the targets of both
both-get : (x y : Outs) (k : ℕ) → get_or (both_out x y) k 0 ≡ either_target (get_or x k 0) (get_or y k 0)
unfolding both_out
both-get (s ∷ x) (t ∷ y) k = grind (arith, both-get x y)
both-get x y k = grind arith

clash-get : (x y : Outs) (k : ℕ) → clash x y ≡ false → targets_differ (get_or x k 0) (get_or y k 0) ≡ false
unfolding clash
clash-get (s ∷ x) (t ∷ y) k n = grind (arith, n, clash-get x y)
clash-get x y k n = grind arith

target_left : (x y : Outs) (k c : ℕ) → target x k ≡ suc c → target (both_out x y) k ≡ suc c
target_left x y k c e = grind (arith, e, both-get x y)

target_right : (x y : Outs) (k c : ℕ) → clash x y ≡ false → target y k ≡ suc c → target (both_out x y) k ≡ suc c
target_right x y k c n e = grind (arith, nat_tests, e, clash-get x y, n, both-get x y)

target-back : (x y : Outs) (j b : ℕ) → target (both_out x y) j ≡ suc b → (target x j ≡ suc b) ⊎ (target y j ≡ suc b)
target-back x y k b e = grind (arith, e, both-get x y)

join-node : (M : Layer) (lo hi b k c : ℕ) → lo < hi → hi < length M → clash (node M lo) (node M hi) ≡ false → target (node M b) k ≡ suc c
    → target (node (without_place hi (set M lo (both_out (node M lo) (node M hi)))) (place_after_join lo hi b)) k ≡ suc c
unfolding place_after_join
join-node M lo hi b k c lt inn nc e =
    let v = both_out (node M lo) (node M hi) in
    let X = set M lo v in
    let left = target_left (node M lo) (node M hi) k c in
    let right = target_right (node M lo) (node M hi) k c nc in
    grind (arith, nat_tests, e, lt, inn, left, right, drop-below hi b X, drop-below hi lo X lt, drop-above hi (b - 1) X, get_or-set_same M lo v [], get_or-set_other M lo b v [])

pub join-keeps : (L M : Layer) (Ls : Net) (lo hi : ℕ) (x : ℕ) (w : List ℕ) → lo < hi → hi < length M → clash (node M lo) (node M hi) ≡ false → PathFrom (L ∷ M ∷ Ls) x w
    → PathFrom (redirect (λ a j b. suc (place_after_join lo hi b)) L ∷ without_place hi (set M lo (both_out (node M lo) (node M hi))) ∷ Ls) x w
join-keeps L M Ls lo hi x [] a b n p = absurd p
join-keeps L M Ls lo hi x (j ∷ []) a b n p = absurd p.2
join-keeps L M Ls lo hi x (j ∷ k ∷ w) a b n p =
    (place_after_join lo hi p.0, redirect-arc (λ a j b. suc (place_after_join lo hi b)) L x j p.0 p.1, (p.2.0, join-node M lo hi p.0 k p.2.0 a b n p.2.1, p.2.2))

-- ---- open
module _ {S V : Type 0} (by : Setting S V) where
  ones-at : (n k b : ℕ) → get_or (table n (λ m. 1)) k 0 ≡ suc b → b ≡ 0
  ones-at zero k b e = absurd (omega arith)
  ones-at (suc n) k b e = grind (arith, e, ones-at n (k - 1) b)

  open-ranged : IsRanged (all_doors by.round.n ∷ []) 1
  open-ranged zero (suc k) b e = let z = ones-at by.round.n k b e in omega arith
  open-ranged (suc a) (suc k) b e = absurd (omega arith)
  open-ranged a j b e = absurd (omega arith)

  first-door : target (all_doors by.round.n) 1 ≡ 1
  first-door = table_at by.round.n 0 (λ m. 1) 0 by.round.one

  open-fed : IsFed (all_doors by.round.n ∷ []) 1
  open-fed b h = let z : b ≡ 0 = omega arith in (0, 1, first-door ∙ ap suc (sym z))

  open-led : IsLed (all_doors by.round.n ∷ [])
  open-led a h = let z : a ≡ 0 = omega arith in (1, 0, rw z first-door)

-- ---- part
-- the nodes of a layer with one more are those of the layer
pub more-back : (M : Layer) (nd : Outs) (c : ℕ) → c < suc (length M) → ((c < length M) × (node (M ++ (nd ∷ [])) c ≡ node M c)) ⊎ ((c ≡ length M) × (node (M ++ (nd ∷ [])) c ≡ nd))
more-back M nd c h = elim (cases_lt c (length M)) [ inl k ↦ inl (k, get_or_append_left M (nd ∷ []) [] c k) | inr k ↦ inr (omega arith, get_or_push M nd [] c (omega arith)) ]

module _ (M : Layer) (a : ℕ) (inn : a < length M) where
  more-ranged : (m : ℕ) → IsRanged M m → IsRanged (M ++ (node M a ∷ [])) m
  more-ranged m h c j b e =
      let k = has-arc (M ++ (node M a ∷ [])) c j b e in
      let q = more-back M (node M a) c (omega (arith, length-snoc M (node M a))) in
      grind (arith, e, q, h c j b, h a j b)

  pub more-even : (n : ℕ) → EvenLayer n M → EvenLayer n (M ++ (node M a ∷ []))
  more-even n h c k = grind (arith, more-back M (node M a) c, length-snoc M (node M a), h c, h a, inn, k)

  pub more-led : IsLed M → IsLed (M ++ (node M a ∷ []))
  more-led h c k =
      elim (more-back M (node M a) c (omega (arith, length-snoc M (node M a)))) [
        | inl q ↦ (let s = h c q.0 in (s.0, s.1, rw q.1 s.2))
        | inr q ↦ (let s = h a inn in (s.0, s.1, rw q.1 s.2))
      ]

  more-fed : (m : ℕ) → IsFed M m → IsFed (M ++ (node M a ∷ [])) m
  more-fed m h b k = let s = h b k in (s.0, s.1, rw (get_or_append_left M (node M a ∷ []) [] s.0 (has-arc M s.0 s.1 b s.2)) s.2)

  pub more-tied : (Ls : Net) → IsTied (M ∷ Ls) → IsTied ((M ++ (node M a ∷ [])) ∷ Ls)
  more-tied [] t = more-ranged 1 t
  more-tied (N ∷ Ls) t = (more-ranged (length N) t.0, more-fed (length N) t.1, t.2, t.3)

module _ {S V : Type 0} (by : Setting S V) (self : (s : S) → by.rule.same s s ≡ true) where
  agree-self : (x : Down S V) → agree by.rule x x ≡ true
  unfolding agree
  agree-self x = grind (arith, nat_tests, self x.state)

  odd-one : (x : Down S V) (l : List (Down S V)) → agrees_with_all by.rule x l ≡ false → (y : Down S V) × Among y l × (agree by.rule x y ≡ false)
  unfolding agrees_with_all
  odd-one x [] e = absurd (true≢false e)
  odd-one x (y ∷ l) e =
      elim (and_cases (agree by.rule x y) (agrees_with_all by.rule x l) e) [
        | inl h ↦ (y, inl refl, h)
        | inr h ↦ (let q = odd-one x l h in (q.0, inr q.1, q.2))
      ]

  -- two groups: a first arrival, and one that disagrees with it
  groups : (l : List (Down S V)) → all_agree by.rule l ≡ false → (x : Down S V) × (first_arrival l ≡ Some x) × Among x l × (y : Down S V) × Among y l × (agree by.rule x y ≡ false)
  unfolding all_agree
  groups [] e = absurd (true≢false e)
  groups (x ∷ l) e = let q = odd-one x l e in (x, refl, inl refl, q.0, inr q.1, q.2)

  module _ (a : ℕ) (labs : List (Option (Down S V))) (L M : Layer) (inn : a < length M) (two : all_agree by.rule (arrivals_at (arrival_over by) a labs L) ≡ false) where
    abbrev h : Option (Down S V)
    h = first_arrival (arrivals_at (arrival_over by) a labs L)

    abbrev f : ℕ → ℕ → ℕ → ℕ
    f = moved by a labs L (length M)

    pub part-ranged : IsRanged L (length M) → IsRanged (redirect f L) (length (M ++ (node M a ∷ [])))
    part-ranged g u j c e = let q = redirect-back f L u j c e in let k = g u j q.0 q.1 in let z = length-snoc M (node M a) in let y = q.2 in grind (arith, k, y, z)

    moves-to : (u j b : ℕ) (q : Bool) → target (node L u) j ≡ suc b → (eqb b a && differs_from_first by h (get_or labs u None) j) ≡ q → target (node (redirect f L) u) j ≡ cond q (suc (length M)) (suc b)
    moves-to u j b q e t = redirect-arc f L u j b e ∙ ap (λ (z : Bool). cond z (suc (length M)) (suc b)) t

    at_a : (x y : Down S V) → h ≡ Some x → (w : From (arrival_over by) a labs L y) → (eqb a a && differs_from_first by h (get_or labs w.source None) w.door) ≡ not (agree by.rule x y)
    at_a x y e w = rw (eq-eqb a a refl, e, w.labelled) (ap (λ (z : Down S V). not (agree by.rule x z)) (sym w.is))

    pub part-fed : IsFed L (length M) → IsFed (redirect f L) (length (M ++ (node M a ∷ [])))
    part-fed g c k =
        let q = groups (arrivals_at (arrival_over by) a labs L) two in
        let v = ins-from (arrival_over by) a labs L q.0 q.2 in
        let w = ins-from (arrival_over by) a labs L q.3 q.4 in
        elim (cases_lt c (length M)) [
          | inl lt ↦ elim (cases_eq c a) [
            | inl e ↦ (v.source, v.door, moves-to v.source v.door a false v.arc (at_a q.0 q.0 q.1 v ∙ ap not (agree-self q.0)) ∙ ap suc (sym e))
            | inr n ↦ (let s = g c lt in (s.0, s.1, moves-to s.0 s.1 c false s.2 (ap (λ (z : Bool). z && differs_from_first by h (get_or labs s.0 None) s.1) (ne_eqb c a n))))
          ]
          | inr ge ↦ (let z : length M ≡ c = omega (arith, length-snoc M (node M a)) in (w.source, w.door, moves-to w.source w.door a true w.arc (at_a q.0 q.3 q.1 w ∙ ap not q.5) ∙ ap suc z))
        ]

    pub part-led : IsLed L → IsLed (redirect f L)
    part-led g u k =
        let s = g u (omega (arith, redirect-length f L)) in
        (s.0, cond (eqb s.1 a && differs_from_first by h (get_or labs u None) s.0) (length M) s.1, redirect-arc f L u s.0 s.1 s.2 ∙ grind arith)

-- ---- join
pub drop-length : (i : ℕ) (M : Layer) → i < length M → suc (length (without_place i M)) ≡ length M
unfolding without_place
drop-length i [] h = absurd (omega arith)
drop-length i (x ∷ M) h = grind (arith, h, drop-length (i - 1) M)

module _ (M : Layer) (lo hi : ℕ) (lt : lo < hi) (inn : hi < length M) (nc : clash (node M lo) (node M hi) ≡ false) where
  abbrev X : Layer
  X = set M lo (both_out (node M lo) (node M hi))

  abbrev M' : Layer
  M' = without_place hi X

  long : suc (length M') ≡ length M
  long = drop-length hi X (omega (arith, length-set M lo (both_out (node M lo) (node M hi)))) ∙ length-set M lo (both_out (node M lo) (node M hi))

  back : (c j b : ℕ) → target (node M' c) j ≡ suc b → (a : ℕ) × (target (node M a) j ≡ suc b)
  back c j b e = elim (cases_lt c hi) [
    | inl k ↦ elim (cases_eq c lo) [
      | inl s ↦ elim (target-back (node M lo) (node M hi) j b (rw (drop-below hi c X k, s, get_or-set_same M lo (both_out (node M lo) (node M hi)) [] (omega arith)) at e)) [ inl q ↦ (lo, q) | inr q ↦ (hi, q) ]
      | inr s ↦ (c, rw (← (drop-below hi c X k ∙ get_or-set_other M lo c (both_out (node M lo) (node M hi)) [] s)) e)
    ]
    | inr k ↦ (suc c, rw (← (drop-above hi c X k ∙ get_or-set_other M lo (suc c) (both_out (node M lo) (node M hi)) [] (omega arith))) e)
  ]

  join-ranged : (m : ℕ) → IsRanged M m → IsRanged M' m
  join-ranged m h c j b e = let q = back c j b e in h q.0 j b q.1

  join-fed : (m : ℕ) → IsFed M m → IsFed M' m
  join-fed m h b k = let s = h b k in (place_after_join lo hi s.0, s.1, join-node M lo hi s.0 s.1 b lt inn nc s.2)

  -- a place of the new layer comes from a place of the old
  from : (c : ℕ) → c < length M' → (b : ℕ) × (b < length M) × (place_after_join lo hi b ≡ c)
  unfolding place_after_join
  from c k = elim (cases_lt c hi) [ inl h ↦ (c, omega (arith, long), grind (arith, nat_tests, h)) | inr h ↦ (suc c, omega (arith, long), grind (arith, nat_tests, h)) ]

  to : (b : ℕ) → b < length M → place_after_join lo hi b < length M'
  unfolding place_after_join
  to b k = grind (arith, nat_tests, k, long)

  pub join-led : IsLed M → IsLed M'
  join-led h c k = let q = from c k in let s = h q.0 q.1 in
      (s.0, s.1, ap (λ (z : ℕ). target (node M' z) s.0) (sym q.2) ∙ join-node M lo hi q.0 s.0 s.1 lt inn nc s.2)

  pub join-tail : (Ls : Net) → IsTied (M ∷ Ls) → IsTied (M' ∷ Ls)
  join-tail [] t = join-ranged 1 t
  join-tail (N ∷ Ls) t = (join-ranged (length N) t.0, join-fed (length N) t.1, t.2, t.3)

  abbrev L' : Layer → Layer
  L' L = redirect (λ a j b. suc (place_after_join lo hi b)) L

  pub in-ranged : (L : Layer) → IsRanged L (length M) → IsRanged (L' L) (length M')
  in-ranged L h a j c e = let q = redirect-back (λ a j b. suc (place_after_join lo hi b)) L a j c e in let k = to q.0 (h a j q.0 q.1) in omega (arith, q.2)

  pub in-fed : (L : Layer) → IsFed L (length M) → IsFed (L' L) (length M')
  in-fed L h c k = let q = from c k in let s = h q.0 q.1 in
      (s.0, s.1, redirect-arc (λ a j b. suc (place_after_join lo hi b)) L s.0 s.1 q.0 s.2 ∙ ap suc q.2)

pub in-led : (lo hi : ℕ) (L : Layer) → IsLed L → IsLed (redirect (λ a j b. suc (place_after_join lo hi b)) L)
in-led lo hi L h a k = let s = h a (omega (arith, redirect-length (λ a j b. suc (place_after_join lo hi b)) L)) in
    (s.0, place_after_join lo hi s.1, redirect-arc (λ a j b. suc (place_after_join lo hi b)) L a s.0 s.1 s.2)

even-redirect : (n : ℕ) (f : ℕ → ℕ → ℕ → ℕ) (L : Layer) → EvenLayer n L → EvenLayer n (redirect f L)
even-redirect n f L h a k = redirect-long f L a ∙ h a (omega (arith, redirect-length f L))

even-compress : (n : ℕ) (fs : List Bool) (L : Layer) → EvenLayer n L → EvenLayer n (compress fs L)
even-compress n fs L h c k = let q = compress-back fs L c k in rw (← q.2, compress-at fs L q.0 q.1) (h q.0 q.3)

even-set : (n : ℕ) (L : Layer) (i : ℕ) (v : Outs) → length v ≡ n → EvenLayer n L → EvenLayer n (set L i v)
even-set n L i v g h a k = grind (arith, g, h, k, length-set L i v, get_or-set_same L i v [], get_or-set_other L i a v [])

even-drop : (n i : ℕ) (L : Layer) → i < length L → EvenLayer n L → EvenLayer n (without_place i L)
even-drop n i L inn h a k = grind (arith, h, k, drop-length i L inn, drop-below i a L, drop-above i a L, cases_lt a i)

both-even : (n : ℕ) (x y : Outs) → length x ≡ n → length y ≡ n → length (both_out x y) ≡ n
unfolding both_out
both-even n [] y a b = b
both-even n (s ∷ x) [] a b = a
both-even n (s ∷ x) (t ∷ y) a b = grind (arith, a, b, both-even (length x) x y)

-- ---- tidying
compress-short : (fs : List Bool) (L : Layer) → length (compress fs L) ≤ length L
unfolding compress
compress-short (f ∷ fs) (x ∷ L) = grind (arith, compress-short fs L)
compress-short fs L = omega arith

tidy-less : (n W : ℕ) (fr : List (Option Mark)) (Ls : Net) → (length (tidy fr Ls) ≡ length Ls) × (IsEven n Ls → IsEven n (tidy fr Ls)) × (IsRoomy W Ls → IsRoomy W (tidy fr Ls))
unfolding tidy
tidy-less n W fr [] = (refl, λ h. h, λ h. h)
tidy-less n W fr (L ∷ Ls) =
    let r = tidy-less n W (marks_next fr L (width Ls)) Ls in
    let f : ℕ → ℕ → ℕ → ℕ = λ a j b. renumber (flags (marks_next fr L (width Ls)) (marks_up Ls)) b in
    let fs = flags fr (marks_up (L ∷ Ls)) in
    (ap suc r.0, λ h. (even-compress n fs (redirect f L) (even-redirect n f L h.0), r.1 h.1), λ h. (omega (arith, h.0, redirect-length f L, compress-short fs (redirect f L)), r.2 h.1))

tidied-less : (n W : ℕ) (Ls : Net) → (length (tidied_arcs Ls) ≡ length Ls) × (width (tidied_arcs Ls) ≡ width Ls) × (IsEven n Ls → IsEven n (tidied_arcs Ls)) × (IsRoomy W Ls → IsRoomy W (tidied_arcs Ls))
unfolding tidied_arcs
tidied-less n W [] = (refl, refl, λ h. h, λ h. h)
tidied-less n W (L ∷ Ls) =
    let fr = marks_next (Some tt ∷ []) L (width Ls) in
    let f : ℕ → ℕ → ℕ → ℕ = λ a j b. renumber (flags fr (marks_up Ls)) b in
    let r = tidy-less n W fr Ls in
    (ap suc r.0, redirect-length f L, λ h. (even-redirect n f L h.0, r.1 h.1), λ h. (omega (arith, h.0, redirect-length f L), r.2 h.1))

pub tidied-length : (Ls : Net) → length (tidied_arcs Ls) ≡ length Ls
tidied-length Ls = (tidied-less 0 0 Ls).0

-- ---- no arc leads out of the next layer
abbrev pub RangedAll : Net → Type 0
RangedAll [] = Unit {0}
RangedAll (L ∷ Ls) = IsRanged L (width Ls) × RangedAll Ls

pub tied-ranged : (Ls : Net) → IsTied Ls → RangedAll Ls
tied-ranged [] t = tt
tied-ranged (L ∷ []) t = (t, tt)
tied-ranged (L ∷ M ∷ Ls) t = (t.0, tied-ranged (M ∷ Ls) t.3)

-- ---- arcs taken out, layer by layer
-- what is left has the form of what was there
pub record Less (n W : ℕ) (Ls Ms : Net) : Type 0 where
  pub deep : length Ms ≡ length Ls
  pub wide : width Ms ≡ width Ls
  pub even : IsEven n Ls → IsEven n Ms
  pub roomy : IsRoomy W Ls → IsRoomy W Ms
  pub ranged : RangedAll Ls → RangedAll Ms

less-layer : (n W : ℕ) (t : ℕ → ℕ → ℕ → Bool) (L : Layer) (Ls Ms : Net) → Less n W Ls Ms → Less n W (L ∷ Ls) (redirect (λ a j b. cond (t a j b) 0 (suc b)) L ∷ Ms)
less-layer n W t L Ls Ms l = record {
  deep = ap suc l.deep;
  wide = redirect-length (λ a j b. cond (t a j b) 0 (suc b)) L;
  even = λ h. (even-redirect n (λ a j b. cond (t a j b) 0 (suc b)) L h.0, l.even h.1);
  roomy = λ h. (omega (arith, h.0, redirect-length (λ a j b. cond (t a j b) 0 (suc b)) L), l.roomy h.1);
  ranged = λ h. (rw l.wide (λ a j c e. h.0 a j c (kept-back t L a j c e)), l.ranged h.1);
}

less_refl : (n W : ℕ) (Ls : Net) → Less n W Ls Ls
less_refl n W Ls = record { deep = refl; wide = refl; even = λ h. h; roomy = λ h. h; ranged = λ h. h }

-- what a filter leaves
pub kept-less : {S V : Type 0} (n W : ℕ) (goes : ℕ → ℕ → ℕ → Option (Down S V) → Option Up → Bool) (i : ℕ) (Ls : Net) (labs : List (LayerLabels S V)) → Less n W Ls (kept_arcs goes i Ls labs)
unfolding kept_arcs
kept-less n W goes i (L ∷ Ls) (x ∷ labs) =
    less-layer n W (λ a j b. goes i (suc (length Ls)) j (get_or x.downs a None) (get_or x.ups b None)) L Ls (kept_arcs goes (suc i) Ls labs) (kept-less n W goes (suc i) Ls labs)
kept-less n W goes i Ls labs = less_refl n W Ls

-- ---- an edit of a layer of arcs and the next
-- each node of the first layer has an out-arc
abbrev IsLedFirst : Net → Type 0
IsLedFirst [] = Unit {0}
IsLedFirst (L ∷ Ls) = IsLed L

-- what it keeps, whatever layers stand before
pub record Edited (n W : ℕ) (Ls Ms : Net) : Type 0 where
  pub deep : length Ms ≡ length Ls
  pub wide : width Ms ≡ width Ls
  pub even : IsEven n Ls → IsEven n Ms
  pub roomy : IsRoomy W Ls → IsRoomy W Ms
  pub led : IsLedFirst Ls → IsLedFirst Ms
  pub tied : IsTied Ls → IsTied Ms
  pub paths : (x : ℕ) (w : List ℕ) → PathFrom Ls x w → PathFrom Ms x w

edited-lawful : {n W : ℕ} {Ls Ms : Net} → Edited n W Ls Ms → IsLawful n W Ls → IsLawful n W Ms
edited-lawful e p = record { deep = e.deep ∙ p.deep; one_first = e.wide ∙ p.one_first; even = e.even p.even; roomy = e.roomy p.roomy; tied = e.tied p.tied }

lift-tied : (n W : ℕ) (L : Layer) (Ls Ms : Net) → Edited n W Ls Ms → IsTied (L ∷ Ls) → IsTied (L ∷ Ms)
lift-tied n W L [] [] e t = t
lift-tied n W L (M ∷ Ls) (N ∷ Ms) e t = (rw e.wide t.0, rw e.wide t.1, e.led t.2, e.tied t.3)
lift-tied n W L Ls Ms e t = absurd (omega (arith, e.deep))

lift-path : (n W : ℕ) (L : Layer) (Ls Ms : Net) → Edited n W Ls Ms → (x : ℕ) (w : List ℕ) → PathFrom (L ∷ Ls) x w → PathFrom (L ∷ Ms) x w
lift-path n W L Ls Ms e x [] p = absurd p
lift-path n W L Ls Ms e x (j ∷ w) p = (p.0, p.1, e.paths p.0 w p.2)

lift : (n W : ℕ) (L : Layer) (Ls Ms : Net) → Edited n W Ls Ms → Edited n W (L ∷ Ls) (L ∷ Ms)
lift n W L Ls Ms e = grind (arith, e, lift-tied n W L Ls Ms e, lift-path n W L Ls Ms e)

pub join-edited : (n W d lo hi : ℕ) (Ls : Net) → lo < hi → hi < length (get_or Ls (suc d) []) → clash (node (get_or Ls (suc d) []) lo) (node (get_or Ls (suc d) []) hi) ≡ false → Edited n W Ls (joined_arcs d lo hi Ls)
unfolding joined_arcs
join-edited n W zero lo hi (L ∷ M ∷ Ls) a b c =
    let f : ℕ → ℕ → ℕ → ℕ = λ a j b. suc (place_after_join lo hi b) in
    let v = both_out (node M lo) (node M hi) in
    let m = length-set M lo v in
    let e = λ (h : EvenLayer n M). even-set n M lo v (both-even n (node M lo) (node M hi) (h lo (omega arith)) (h hi b)) h in record {
      deep = refl;
      wide = redirect-length f L;
      even = λ h. (even-redirect n f L h.0, (even-drop n hi (set M lo v) (omega arith) (e h.1.0), h.1.1));
      roomy = λ h. (omega (arith, h.0, redirect-length f L), (omega (arith, h.1.0, drop-length hi (set M lo v) (omega arith)), h.1.1));
      led = in-led lo hi L;
      tied = λ t. (in-ranged M lo hi a b c L t.0, in-fed M lo hi a b c L t.1, join-led M lo hi a b c t.2, join-tail M lo hi a b c Ls t.3);
      paths = λ x w. join-keeps L M Ls lo hi x w a b c;
    }
join-edited n W (suc d) lo hi (L ∷ Ls) a b c = lift n W L Ls _ (join-edited n W d lo hi Ls a b c)
join-edited n W d lo hi Ls a b c = absurd (omega arith)

module _ {S V : Type 0} (by : Setting S V) (w : 1 ≤ by.width) where
  open-even : EvenLayer by.round.n (all_doors by.round.n ∷ [])
  open-even a h = let z : a ≡ 0 = omega arith in rw z (table-long by.round.n (λ m. 1))

  opens : (k : ℕ) → let D = table k (λ i. all_doors by.round.n ∷ []) in (width D ≡ 1) × IsEven by.round.n D × IsRoomy by.width D × IsTied D
  opens zero = (refl, tt, tt, tt)
  opens (suc zero) = (refl, (open-even, tt), (w, tt), open-ranged by)
  opens (suc (suc k)) = let r = opens (suc k) in (refl, (open-even, r.1), (w, r.2), (open-ranged by, open-fed by, open-led by, r.3))

  pub proper-opened : IsLawful by.round.n by.width (opening_arcs by.round.n)
  unfolding opening_arcs
  proper-opened =
      let r = opens by.round.n in
      record { deep = table-long by.round.n (λ i. all_doors by.round.n ∷ []); one_first = r.0; even = r.1; roomy = r.2; tied = r.3 }

  -- what is left of a proper net, tidied, is proper
  pub proper-less : (Ls Ms : Net) → Less by.round.n by.width Ls Ms → IsLawful by.round.n by.width Ls → IsLawful by.round.n by.width (tidied_arcs Ms)
  proper-less Ls Ms l p =
      let t = tidied-less by.round.n by.width Ms in
      record { deep = t.0 ∙ l.deep ∙ p.deep; one_first = t.1 ∙ l.wide ∙ p.one_first; even = t.2 (l.even p.even); roomy = t.3 (l.roomy p.roomy); tied = tidied-tied Ms }

  pub proper-kept : (goes : ℕ → ℕ → ℕ → Option (Down S V) → Option Up → Bool) (Ls : Net) (labs : List (LayerLabels S V)) → IsLawful by.round.n by.width Ls → IsLawful by.round.n by.width (tidied_arcs (kept_arcs goes 0 Ls labs))
  proper-kept goes Ls labs p = proper-less Ls _ (kept-less by.round.n by.width goes 0 Ls labs) p

  pub proper-join : (d lo hi : ℕ) (Ls : Net) → lo < hi → hi < length (get_or Ls (suc d) []) → clash (node (get_or Ls (suc d) []) lo) (node (get_or Ls (suc d) []) hi) ≡ false → IsLawful by.round.n by.width Ls → IsLawful by.round.n by.width (joined_arcs d lo hi Ls)
  proper-join d lo hi Ls x y z p = edited-lawful (join-edited by.round.n by.width d lo hi Ls x y z) p

  -- parting with any labels of the layer before, as they may stand in records
  pub part-edited : ((s : S) → by.rule.same s s ≡ true) → (d a : ℕ) (labs : List (Option (Down S V))) (Ls : Net) → a < length (get_or Ls (suc d) []) → length (get_or Ls (suc d) []) < by.width
      → all_agree by.rule (arrivals_at (arrival_over by) a labs (get_or Ls d [])) ≡ false → Edited by.round.n by.width Ls (parted_arcs by d a labs Ls)
  unfolding parted_arcs
  part-edited self zero a labs (L ∷ M ∷ Ls) k u e = record {
    deep = refl;
    wide = redirect-length _ L;
    even = λ h. (even-redirect by.round.n _ L h.0, (more-even M a k by.round.n h.1.0, h.1.1));
    roomy = λ h. (simp redirect-length h.0, (omega (arith, length-snoc M (node M a)), h.1.1));
    led = part-led by self a labs L M k e;
    tied = λ t. (part-ranged by self a labs L M k e t.0, part-fed by self a labs L M k e t.1, more-led M a k t.2, more-tied M a k Ls t.3);
    paths = part-keeps by a labs L M Ls;
  }
  part-edited self (suc d) a labs (L ∷ Ls) k u e = lift by.round.n by.width L Ls _ (part-edited self d a labs Ls k u e)
  part-edited self d a labs Ls k u e = absurd (omega arith)

  pub proper-parted-at : ((s : S) → by.rule.same s s ≡ true) → (d a : ℕ) (labs : List (Option (Down S V))) (Ls : Net) → a < length (get_or Ls (suc d) []) → length (get_or Ls (suc d) []) < by.width
      → all_agree by.rule (arrivals_at (arrival_over by) a labs (get_or Ls d [])) ≡ false → IsLawful by.round.n by.width Ls → IsLawful by.round.n by.width (parted_arcs by d a labs Ls)
  proper-parted-at self d a labs Ls x y z p = edited-lawful (part-edited self d a labs Ls x y z) p
