-- The paths of the tidied layers are those of the layers, and a node gets a number exactly if it lies on a path
use Rattle.std.proofs.Common.{◌≡◌, ℕ, zero, suc, ◌-◌, ◌*◌, ◌<◌, ◌≤◌, Bool, false, List, [], ◌∷◌, length, get_or, take, drop, filter, sym, refl, ap, ◌∙◌, subst, inl, inr, suc-mul, arith}
use Rattle.std.proofs.lemmas.Bool.{false_from_ne_true}
use Rattle.std.proofs.lemmas.List.{length-drop}
use Rattle.layers.specs.declared.node.Node.{Node}
use Rattle.layers.specs.Records.{nodes_in}
use Rattle.layers.specs.Targets.{targets}
use Rattle.layers.proofs.Flows.{rank-zero}
use Rattle.tidying.specs.Tidied.{lively, reached_next, numbers, end_numbers, tidied, first_mark}
use Rattle.tidying.specs.Paths.{arc, Leads, from_layer, reached, KeptExactly, SamePaths}
use Rattle.tidying.proofs.InUse.{nodes-few}
use Rattle.tidying.proofs.Lists.{get_or-blank, zero-or-suc}
use Rattle.tidying.proofs.Marks.{On, first-on, reached-on, on-reached}
use Rattle.tidying.proofs.Steps.{back}
use Rattle.tidying.proofs.Targets.{Bare}
use Rattle.tidying.proofs.Renewed.{arc-in, renewed-layer, renewed-live, numbers-zero, number-live, live-number, nodes-left, sent-left}

none-live : {S V : Type 0} (vs : List (Node S V)) (z : Node S V) → ((a : ℕ) → lively (get_or vs a z) ≡ false) → filter lively vs ≡ []
none-live [] z h = refl
none-live (v ∷ vs) z h = rw (h 0) (none-live vs z (λ a. h (suc a)))

module _ {S V : Type 0} (w : ℕ) (z : Node S V) (bare : Bare z) (small : w < 256) where
  -- ---- a number shows a path on
  numbers-from : (r : ℕ) (from : List Bool) (xs : List (Node S V)) (a c : ℕ) → get_or (numbers w z r from xs) (suc a) 0 ≡ suc c → (ds : List ℕ) × (length ds ≡ r) × Leads w z xs (suc a) ds 1
  unfolding numbers arc
  numbers-from zero from xs zero c e = ([], refl, refl)
  numbers-from zero from xs (suc a) c e = absurd (omega (arith, get_or-blank {X = ℕ} 254 a 0, e))
  numbers-from (suc r) from xs a c e =
      let l = renewed-live w z bare small r from xs a (number-live w z bare small r from xs a c e).0 in
      elim (zero-or-suc (get_or (numbers w z r (reached_next from (nodes_in (take w xs))) (drop w xs)) (suc l.2) 0)) [
        | inl o ↦ absurd (l.4 o)
        | inr n ↦ (let p = numbers-from r (reached_next from (nodes_in (take w xs))) (drop w xs) l.2 n.0 n.1 in (suc l.1 ∷ p.0, ap suc p.1, (l.2, l.3, p.2)))
      ]

  leads-in : (xs : List (Node S V)) (a : ℕ) (ds : List ℕ) (b : ℕ) → suc b < 256 → Leads w z xs (suc a) ds (suc b) → suc a < 256
  unfolding arc
  leads-in xs a [] b lt e = omega arith
  leads-in xs a (zero ∷ ds) b lt h = absurd (omega (arith, h.1))
  leads-in xs a (suc k ∷ ds) b lt h = omega (arith, (arc-in w z bare small (nodes_in (take w xs)) a k h.0 h.1).0, nodes-few w xs)

  -- a marked node from which a path leads on gets one, and the path stays
  path-stays : (r : ℕ) (from : List Bool) (xs : List (Node S V)) (a : ℕ) (ds : List ℕ) → On from (suc a) → length ds ≡ r → Leads w z xs (suc a) ds 1
      → (c : ℕ) × (get_or (numbers w z r from xs) (suc a) 0 ≡ suc c) × (r * w ≤ length xs → Leads w z (tidied w z r from xs) (suc c) ds 1)
  unfolding numbers arc
  path-stays zero from xs a [] on len e = (0, ap (λ n. get_or end_numbers n 0) e, λ fits. unfold tidied in refl)
  path-stays zero from xs a (j ∷ ds) on len h = absurd (omega arith)
  path-stays (suc r) from xs a [] on len h = absurd (omega arith)
  path-stays (suc r) from xs a (zero ∷ ds) on len h = absurd (omega (arith, h.1))
  path-stays (suc r) from xs a (suc k ∷ ds) on len h =
      let us = nodes_in (take w xs) in
      let s = arc-in w z bare small us a k h.0 h.1 in
      let q = path-stays r (reached_next from us) (drop w xs) h.0 ds (on-reached z from us a k (suc h.0) (leads-in (drop w xs) h.0 ds 0 (omega arith) h.2) on s.0 s.1 h.1) (omega arith) h.2 in
      let n = live-number w z bare small r from xs a k h.0 on h.1 (λ none. absurd (omega (arith, none, q.1))) in (
        n.0,
        n.1,
        λ fits. (let more = suc-mul r w in (
          q.0,
          sent-left w z bare small r from xs (omega arith) a n.0 k n.1 ∙ ap (λ t. get_or (numbers w z r (reached_next from us) (drop w xs)) t 0) h.1 ∙ q.1,
          subst (λ ys. Leads w z ys (suc q.0) ds 1) (sym (back w z r from xs (omega arith))) (q.2 (omega (arith, length-drop w xs))),
        )),
      )

  -- and a path that is left was one
  path-was : (r : ℕ) (from : List Bool) (xs : List (Node S V)) (a c : ℕ) (ds : List ℕ) → r * w ≤ length xs → get_or (numbers w z r from xs) (suc a) 0 ≡ suc c → length ds ≡ r → Leads w z (tidied w z r from xs) (suc c) ds 1 → Leads w z xs (suc a) ds 1
  unfolding numbers arc
  path-was zero from xs zero c [] fits e len h = refl
  path-was zero from xs (suc a) c [] fits e len h = absurd (omega (arith, get_or-blank {X = ℕ} 254 a 0, e))
  path-was zero from xs a c (j ∷ ds) fits e len h = absurd (omega arith)
  path-was (suc r) from xs a c [] fits e len h = absurd (omega arith)
  path-was (suc r) from xs a c (zero ∷ ds) fits e len h = absurd (omega (arith, h.1))
  path-was (suc r) from xs a c (suc k ∷ ds) fits e len h =
      let us = nodes_in (take w xs) in
      let next = reached_next from us in
      let more = suc-mul r w in
      let new = numbers w z r next (drop w xs) in
      let n : get_or new (get_or (targets (get_or us a z)) k 0) 0 ≡ suc h.0 = sym (sent-left w z bare small r from xs (omega arith) a c k e) ∙ h.1 in
      elim (zero-or-suc (get_or (targets (get_or us a z)) k 0)) [
        | inl o ↦ absurd (omega (arith, n, ap (λ t. get_or new t 0) o, numbers-zero w z bare small r next (drop w xs)))
        | inr t ↦ (t.0, t.1, path-was r next (drop w xs) t.0 h.0 ds (omega (arith, length-drop w xs)) (ap (λ t. get_or new t 0) (sym t.1) ∙ n) (omega arith) (subst (λ ys. Leads w z ys (suc h.0) ds 1) (back w z r from xs (omega arith)) h.2))
      ]

  -- the first node's number is 1, if it gets one; and without one nothing is left
  first-number : (n : ℕ) (xs : List (Node S V)) (c : ℕ) → get_or (numbers w z n first_mark xs) 1 0 ≡ suc c → c ≡ 0
  unfolding numbers
  first-number zero xs c e = omega arith
  first-number (suc r) xs c e = sym (number-live w z bare small r first_mark xs 0 c e).1 ∙ rank-zero _

  first-left : (n : ℕ) (xs : List (Node S V)) (ds : List ℕ) → n * w ≤ length xs → length ds ≡ n → Leads w z (tidied w z n first_mark xs) 1 ds 1 → (c : ℕ) × (get_or (numbers w z n first_mark xs) 1 0 ≡ suc c)
  unfolding numbers arc
  first-left zero xs ds fits len h = (0, refl)
  first-left (suc r) xs [] fits len h = absurd (omega arith)
  first-left (suc r) xs (zero ∷ ds) fits len h = absurd (omega (arith, h.1))
  first-left (suc r) xs (suc k ∷ ds) fits len h = elim (zero-or-suc (get_or (numbers w z (suc r) first_mark xs) 1 0)) [
    | inr n ↦ n
    | inl o ↦ absurd (
        let vs = renewed-layer w z bare small r first_mark xs in
        let none : (a : ℕ) → lively (get_or vs a z) ≡ false = λ a. false_from_ne_true (lively (get_or vs a z)) (λ l.
        let s = renewed-live w z bare small r first_mark xs a l in
        let n = live-number w z bare small r first_mark xs a s.1 s.2 s.0 s.3 s.4 in
        absurd (omega (arith, o, n.1, ap (λ a. get_or (numbers w z (suc r) first_mark xs) (suc a) 0) (first-on a s.0)))) in
        let more = suc-mul r w in
        let at = λ (x : Node S V). get_or (targets x) k 0 in
        omega (arith, h.1, ap at (nodes-left w z bare small r first_mark xs (omega arith) 0 ∙ ap (λ fs. get_or fs 0 z) (none-live vs z none)), bare k))
  ]

  pub same-paths : (n : ℕ) (xs : List (Node S V)) → n * w ≤ length xs → SamePaths w z n xs (tidied w z n first_mark xs)
  same-paths n xs fits ds len = (
    (λ h. let q = path-stays n first_mark xs 0 ds refl len h in subst (λ c. Leads w z (tidied w z n first_mark xs) (suc c) ds 1) (first-number n xs q.0 q.1) (q.2 fits)),
    (λ h. let q = first-left n xs ds fits len h in path-was n first_mark xs 0 0 ds fits (q.1 ∙ ap suc (first-number n xs q.0 q.1)) len h),
  )

  -- ---- a mark shows a path to the node
  reached-from : (i : ℕ) (from : List Bool) (xs : List (Node S V)) (b : ℕ) → On (reached w z i from xs) (suc b) → (a : ℕ) × On from (suc a) × (ds : List ℕ) × (length ds ≡ i) × Leads w z xs (suc a) ds (suc b)
  unfolding reached arc
  reached-from zero from xs b on = (b, on, [], refl, refl)
  reached-from (suc i) from xs b on =
      let r = reached-from i (reached_next from (nodes_in (take w xs))) (drop w xs) b on in
      let s = reached-on z from (nodes_in (take w xs)) (suc r.0) r.1 in
      (s.0, s.1, suc s.2 ∷ r.2, ap suc r.3, (r.0, s.3, r.4))

  reached-has : (i : ℕ) (from : List Bool) (xs : List (Node S V)) (a : ℕ) (ds : List ℕ) (b : ℕ) → suc b < 256 → On from (suc a) → length ds ≡ i → Leads w z xs (suc a) ds (suc b) → On (reached w z i from xs) (suc b)
  unfolding reached arc
  reached-has zero from xs a [] b lt on len e = subst (On from) e on
  reached-has zero from xs a (j ∷ ds) b lt on len h = absurd (omega arith)
  reached-has (suc i) from xs a [] b lt on len h = absurd (omega arith)
  reached-has (suc i) from xs a (zero ∷ ds) b lt on len h = absurd (omega (arith, h.1))
  reached-has (suc i) from xs a (suc k ∷ ds) b lt on len h =
      let s = arc-in w z bare small (nodes_in (take w xs)) a k h.0 h.1 in
      reached-has i (reached_next from (nodes_in (take w xs))) (drop w xs) h.0 ds b lt (on-reached z from (nodes_in (take w xs)) a k (suc h.0) (leads-in (drop w xs) h.0 ds b lt h.2) on s.0 s.1 h.1) (omega arith) h.2

  pub kept-exactly : (n : ℕ) (xs : List (Node S V)) → KeptExactly w z n xs
  kept-exactly n xs i a lt =
      let from = reached w z i first_mark xs in
      let ys = from_layer w i xs in
      let e : n - i ≡ suc (n - i - 1) = omega arith in (
        (λ ne. elim (zero-or-suc (get_or (numbers w z (n - i) from ys) (suc a) 0)) [
          | inl o ↦ absurd (ne o)
          | inr c ↦
              (let on = (renewed-live w z bare small (n - i - 1) from ys a (number-live w z bare small (n - i - 1) from ys a c.0 (subst (λ m. get_or (numbers w z m from ys) (suc a) 0 ≡ suc c.0) e c.1)).0).0 in
              let s = reached-from i first_mark xs a on in
              ((s.2, s.3, subst (λ b. Leads w z xs (suc b) s.2 (suc a)) (first-on s.0 s.1) s.4), numbers-from (n - i) from ys a c.0 c.1))
        ]),
        (λ o. let q = path-stays (n - i) from ys a o.1.0 (reached-has i first_mark xs 0 o.0.0 a (leads-in ys a o.1.0 0 (omega arith) o.1.2) refl o.0.1 o.0.2) o.1.1 o.1.2 in λ none. omega (arith, none, q.1)),
      )
