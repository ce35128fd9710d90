-- Dictionary order: the next list and the last one, by their first number and the rest.
use Rattle.std.proofs.Common.{◌≡◌, ℕ, zero, suc, ◌+◌, ◌-◌, ◌<◌, ◌≤◌, ◌⊎◌, List, [], ◌∷◌, ◌++◌, length, drop, get_or, set, remove, reverse, swap, All, sym, refl, ap, ◌∙◌, take_all, drop_of_length-le, append-nil, add-one, inl, inr, ⊎_elim, arith, le_refl}
use borrow.Rule.Slice.PartMut.{mid_of, put_mid}
use Rattle.std.specs.List.Sorted.{IsPermutation}
use Rattle.std.proofs.lemmas.Bool.{cases_order, cases_lt}
use Rattle.std.proofs.lemmas.Grind.{common_steps, get_or_default_zero}
use Rattle.std.proofs.lemmas.List.{get_or-reverse, length-reverse, length-set}
use Rattle.std.proofs.lemmas.List.Elements.{All-cons, All-head, All-from_get_or}
use Rattle.std.proofs.lemmas.List.Sorted.{IsPermutation-cons, IsPermutation-sym, IsPermutation-trans, IsPermutation-remove, All-permutation, length_permutation}
use Rattle.lister.specs.Orders.{ComesBefore, IsNext, IsLast}
use Rattle.lister.proofs.Permutations.{unled}

-- ---- an order of lists

pub upto-or-after : (v w : List ℕ) → (ComesBefore v w ⊎ (v ≡ w)) ⊎ ComesBefore w v
upto-or-after [] [] = inl (inr refl)
upto-or-after [] (y ∷ w) = inl (inl tt)
upto-or-after (x ∷ v) [] = inr tt
upto-or-after (x ∷ v) (y ∷ w) = grind (arith, cases_order x y, upto-or-after v w)

pub before-trans : (u v w : List ℕ) → ComesBefore u v → ComesBefore v w → ComesBefore u w
before-trans u [] w a b = absurd a
before-trans u (y ∷ v) [] a b = absurd b
before-trans [] (y ∷ v) (z ∷ w) a b = tt
before-trans (x ∷ u) (y ∷ v) (z ∷ w) a b = grind (arith, before-trans u v w)

-- ---- the last list

pub last-empty : (v : List ℕ) → length v ≡ 0 → IsLast v
last-empty [] e = record { none_after = none }
  where
    none : (u : List ℕ) → IsPermutation [] u → ¬ ComesBefore [] u
    none [] p a = a
    none (z ∷ u) p a = omega (arith, length_permutation [] (z ∷ u) p)
last-empty (x ∷ v) e = absurd (omega arith)

-- the same with one more number ahead
pub next-led : (x : ℕ) (v w : List ℕ) → IsNext v w → IsNext (x ∷ v) (x ∷ w)
next-led x v w h = record { after = inr (refl, h.after); none_between = none }
  where
    none : (u : List ℕ) → IsPermutation (x ∷ v) u → ComesBefore (x ∷ v) u → ¬ ComesBefore u (x ∷ w)
    none [] p a b = a
    none (z ∷ u) p a b = grind (arith, unled x z v u, h.none_between u)

-- a number of a list that has the numbers of x ∷ v, where P holds of those
held : (P : ℕ → Type 0) (x z : ℕ) (v u : List ℕ) → P x → All P v → IsPermutation (x ∷ v) (z ∷ u) → P z
held P x z v u a h p = All-head P z u (All-permutation P (x ∷ v) (z ∷ u) p (All-cons P x v a h))

-- none comes after, if no number is above the first and none comes after the rest
pub last-led : (x : ℕ) (v : List ℕ) → All (λ j. j ≤ x) v → IsLast v → IsLast (x ∷ v)
last-led x v h l = record { none_after = none }
  where
    none : (u : List ℕ) → IsPermutation (x ∷ v) u → ¬ ComesBefore (x ∷ v) u
    none [] p a = a
    none (z ∷ u) p a = let low = held (λ j. j ≤ x) x z v u (le_refl x) h p in grind (arith, unled x z v u, l.none_after u)

last-rest : (x : ℕ) (v : List ℕ) → IsLast (x ∷ v) → IsLast v
last-rest x v l = record { none_after = λ u p a. l.none_after (x ∷ u) (IsPermutation-cons x v u p) (inr (refl, a)) }

-- no number of the rest is above the first one: else it would go ahead
first-high : (x : ℕ) (v : List ℕ) (j : ℕ) → IsLast (x ∷ v) → j < length v → get_or v j 0 ≤ x
first-high x v j l h =
    let y = get_or v j 0 in
    let led = IsPermutation-remove (x ∷ v) (suc j) y (omega arith) (sym (get_or_default_zero v j y h)) in
    ⊎_elim (λ a. absurd (l.none_after (y ∷ remove (x ∷ v) (suc j)) led (inl a))) (λ e. e) (cases_lt x y)

-- the numbers of the last list go down
falls : (v : List ℕ) → IsLast v → (i j : ℕ) → i ≤ j → j < length v → get_or v j 0 ≤ get_or v i 0
falls [] l i j h e = absurd (omega arith)
falls (x ∷ v) l zero zero h e = le_refl x
falls (x ∷ v) l zero (suc j) h e = first-high x v j l (omega arith)
falls (x ∷ v) l (suc i) zero h e = absurd (omega arith)
falls (x ∷ v) l (suc i) (suc j) h e = falls v (last-rest x v l) i j (omega arith) (omega arith)

-- none comes before a list that goes up
pub none_before : (v : List ℕ) → ((i j : ℕ) → i ≤ j → j < length v → get_or v i 0 ≤ get_or v j 0) → (u : List ℕ) → IsPermutation v u → ¬ ComesBefore u v
none_before [] up u p b = b
none_before (x ∷ v) up [] p b = absurd (omega (arith, length_permutation (x ∷ v) [] p))
none_before (x ∷ v) up (z ∷ u) p b =
    let high = held (λ j. x ≤ j) x z v u (le_refl x) (All-from_get_or (λ j. x ≤ j) v 0 (λ i h. up 0 (suc i) (omega arith) (omega arith))) p in
    grind (arith, unled x z v u, none_before v (λ i j h e. up (suc i) (suc j) (omega arith) (omega arith)) u)

-- where no more comes after the rest v: its last number above the first goes ahead, and the rest is turned round
module _ (x k : ℕ) (v : List ℕ) (last : IsLast v) (within : k < length v) (above : x < get_or v k 0) (below : (m : ℕ) → k < m → m < length v → get_or v m 0 ≤ x) where
  abbrev y : ℕ
  y = get_or v k 0

  abbrev turned : List ℕ
  turned = reverse (set v k x)

  turned-rises : (i j : ℕ) → i ≤ j → j < length turned → get_or turned i 0 ≤ get_or turned j 0
  turned-rises i j h e =
      let w = set v k x in
      let a = length w - 1 - j in
      let b = length w - 1 - i in
      let long : (length turned ≡ length w) × (length w ≡ length v) = (length-reverse w, length-set v k x) in
      rw (get_or-reverse w i 0 (omega arith), get_or-reverse w j 0 (omega arith)) (grind (arith, common_steps, falls v last a b, falls v last a k, falls v last k b, below b, below a))

  -- each number is at most x, or at least y
  apart : All (λ j. (j ≤ x) ⊎ (y ≤ j)) v
  apart = All-from_get_or (λ j. (j ≤ x) ⊎ (y ≤ j)) v 0 (λ m h. grind (arith, cases_lt k m, falls v last m k, below m))

  pub next-turned : IsPermutation (x ∷ v) (y ∷ turned) → IsNext (x ∷ v) (y ∷ turned)
  next-turned same = record { after = inl above; none_between = none }
    where
      none : (u : List ℕ) → IsPermutation (x ∷ v) u → ComesBefore (x ∷ v) u → ¬ ComesBefore u (y ∷ turned)
      none [] p a b = a
      none (z ∷ u) p a b =
          let side = held (λ j. (j ≤ x) ⊎ (y ≤ j)) x z v u (inl (le_refl x)) apart p in
          let moved = IsPermutation-trans (y ∷ turned) (x ∷ v) (z ∷ u) (IsPermutation-sym (x ∷ v) (y ∷ turned) same) p in
          grind (arith, unled x z v u, unled y z turned u, last.none_after u, none_before turned turned-rises u)

-- ---- the same, as a slice and its part from 1 on

mid_rest : (x : ℕ) (v : List ℕ) → mid_of 1 (length (x ∷ v) - 1) (x ∷ v) ≡ v
mid_rest x v = take_all (suc (length v) - 1) v (omega arith)

put_rest : (x : ℕ) (v w : List ℕ) → put_mid 1 (length (x ∷ v) - 1) (x ∷ v) w ≡ x ∷ w
put_rest x v w =
    let none : drop (suc (length v) - 1) v ≡ [] = drop_of_length-le v (omega arith) in
    ap (λ (l : List ℕ). x ∷ (w ++ l)) none ∙ ap (λ (l : List ℕ). x ∷ l) (append-nil w)

pub next-put : (v w : List ℕ) → 0 < length v → IsNext (mid_of 1 (length v - 1) v) w → IsNext v (put_mid 1 (length v - 1) v w)
next-put [] w h n = absurd (omega arith)
next-put (x ∷ v) w h n = rw (put_rest x v w) (next-led x v w (rw (mid_rest x v) at n))

pub last-put : (v : List ℕ) → 0 < length v → All (λ j. j ≤ get_or v 0 0) (mid_of 1 (length v - 1) v) → IsLast (mid_of 1 (length v - 1) v) → IsLast v
last-put [] h a l = absurd (omega arith)
last-put (x ∷ v) h a l = last-led x v (rw (mid_rest x v) at a) (rw (mid_rest x v) at l)

-- v is what the rest still is, w the list after the swap, and u its rest turned round
pub next-turned-put : (l v w u : List ℕ) (k : ℕ) → 0 < length l → v ≡ mid_of 1 (length l - 1) l → IsLast v → k < length v → get_or l 0 0 < get_or v k 0
    → ((m : ℕ) → k < m → m < length v → get_or v m 0 ≤ get_or l 0 0) → w ≡ swap (put_mid 1 (length l - 1) l v) 0 (k + 1) → u ≡ reverse (mid_of 1 (length w - 1) w)
    → IsPermutation l (put_mid 1 (length w - 1) w u) → IsNext l (put_mid 1 (length w - 1) w u)
next-turned-put [] v w u k h is last within above below swapped round same = absurd (omega arith)
next-turned-put (x ∷ r) v w u k h is last within above below swapped round same =
    let y = get_or v k 0 in
    let t = set v k x in
    let whole : v ≡ r = is ∙ mid_rest x r in
    let put : w ≡ y ∷ t =
    swapped ∙ ap (λ (l : List ℕ). swap l 0 (k + 1)) (put_rest x r v) ∙ ap (λ (m : ℕ). swap (x ∷ v) 0 m) (add-one k)
    ∙ ap (λ (i : ℕ). i ∷ t) (get_or_default_zero v k x within) in
    let made : put_mid 1 (length w - 1) w u ≡ y ∷ reverse t = rw (round, put, mid_rest y t, put_rest y t (reverse t)) refl in
    rw (made, ← whole) (next-turned x k v last within above below (rw (made, ← whole) at same))
