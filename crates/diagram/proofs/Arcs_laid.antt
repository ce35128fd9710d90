-- Arcs laid layer by layer are those of the opened diagram.
use Rattle.std.proofs.Common.{◌≡◌, ◌≢◌, ℕ, zero, suc, ◌+◌, ◌-◌, ◌*◌, ◌<◌, ◌≤◌, List, [], ◌∷◌, ◌++◌, map, length, get_or, take, drop, set, sym, refl, ap, ◌∙◌, suc-mul, zero-mul, arith}
use Rattle.std.proofs.lemmas.List.{length-append, length-drop, length-map, length-take, length-take-le, drop-drop, take_at, drop_at}
use Rattle.layers.specs.declared.node.Arcs.{Arcs}
use Rattle.layers.specs.declared.node.Node.{Node}
use Rattle.layers.specs.Net.{table, Outs}
use Rattle.layers.specs.Records.{arcs_at}
use Rattle.labels.proofs.Laying.{arcs_of, Arranged}
use Rattle.diagram.specs.Opening.{every_door, no_door, with_arcs, first_arced, arced}

-- ---- one more door
pub one_more : (m k : ℕ) → k < m → set {A = ℕ} (table m (λ i. get_or (table k (λ j. 1)) i 0)) k 1 ≡ table m (λ i. get_or (table (suc k) (λ j. 1)) i 0)
one_more zero k h = absurd (omega arith)
one_more (suc m) zero h = refl
one_more (suc m) (suc k) h = ap (λ (xs : List ℕ). 1 ∷ xs) (one_more m k (omega arith))

module _ {S V : Type 0} (a : Arcs) where
  first-long : (us : List (Node S V)) → length (first_arced a us) ≡ length us
  first-long [] = refl
  first-long (u ∷ us) = ap suc (length-map us (with_arcs no_door))

  module _ (w : ℕ) where
    -- ---- one more layer
    pub arced_more : (k : ℕ) (xs : List (Node S V)) → k ≢ 0 → arced a w k xs ≡ first_arced a (take w xs) ++ arced a w (k - 1) (drop w xs)
    arced_more zero xs ne = absurd (omega arith)
    arced_more (suc k) xs ne = let e : suc k - 1 ≡ k = omega arith in ap (λ (m : ℕ). first_arced a (take w xs) ++ arced a w m (drop w xs)) (sym e)

    -- the rest of the list stays
    pub arced-long : (k : ℕ) (xs : List (Node S V)) → length (arced a w k xs) ≡ length xs
    arced-long zero [] = refl
    arced-long zero (x ∷ xs) = refl
    arced-long (suc k) xs = omega (arith, length-append (first_arced a (take w xs)) (arced a w k (drop w xs)), first-long (take w xs), length-take w xs, arced-long k (drop w xs), length-drop w xs)

    pub after-all : (k : ℕ) (xs : List (Node S V)) → k * w + 1 ≤ length xs → drop (k * w + 1) (arced a w k xs) ≡ drop (k * w + 1) xs
    after-all zero [] h = absurd (omega arith)
    after-all zero (x ∷ xs) h = let e : 0 * w + 1 ≡ 1 = omega (arith, zero-mul w) in rw e
    after-all (suc k) xs h =
        let e : suc k * w + 1 ≡ w + (k * w + 1) = omega (arith, suc-mul k w) in
        let A = first_arced a (take w xs) in
        let B = arced a w k (drop w xs) in
        let long : length A ≡ w = first-long (take w xs) ∙ length-take-le w xs (omega (arith, e)) in
        rw e (sym (drop-drop (k * w + 1) w (A ++ B)) ∙ ap (drop (k * w + 1)) (drop_at A B w long) ∙ after-all k (drop w xs) (omega (arith, e, length-drop w xs)) ∙ drop-drop (k * w + 1) w xs)

-- ---- the opened diagram: a layer's first node has every door
abbrev all : ℕ → Outs
all n = table n (λ k. 1)

module _ {S V : Type 0} (n w : ℕ) where
  none-arranged : (us : List (Node S V)) → map arcs_of (map (with_arcs no_door) us) ≡ table (length us) (λ k. no_door)
  none-arranged [] = refl
  none-arranged (u ∷ us) = ap (λ xs. no_door ∷ xs) (none-arranged us)

  first-arranged : (us : List (Node S V)) (m : ℕ) → length us ≡ m → map arcs_of (first_arced (every_door n) us) ≡ table m (arcs_at (all n ∷ []))
  first-arranged [] m e = rw (← e)
  first-arranged (u ∷ us) m e = rw (← e) (ap (λ xs. every_door n ∷ xs) (none-arranged us))

  pub arranged : (k : ℕ) (xs : List (Node S V)) → k * w + 1 ≤ length xs → Arranged w (table k (λ l. all n ∷ [])) (arced (every_door n) w k xs)
  arranged zero [] h = absurd (omega arith)
  arranged zero (x ∷ xs) h = refl
  arranged (suc k) xs h =
      let e : suc k * w + 1 ≡ w + (k * w + 1) = omega (arith, suc-mul k w) in
      let A = first_arced (every_door n) (take w xs) in
      let B = arced (every_door n) w k (drop w xs) in
      let m = length-take-le w xs (omega (arith, e)) in
      let long : length A ≡ w = first-long (every_door n) (take w xs) ∙ m in
      rw (take_at A B w long, drop_at A B w long) (first-arranged (take w xs) w m, arranged k (drop w xs) (omega (arith, e, length-drop w xs)))
