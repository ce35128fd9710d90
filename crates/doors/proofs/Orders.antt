-- Part orders: doors as tests, induction by the last door, and what holds at each door.
use Rattle.std.proofs.Common.{◌≡◌, ℕ, true, false, ◌⊎◌, List, [], ◌∷◌, ◌++◌, refl, inl, inr, append_assoc, append-nil, arith}
use Rattle.std.proofs.lemmas.Bool.Decides.{nat_tests}
use Rattle.doors.specs.Orders.{StandsIn, IsDoor, IsPartOrder, CanFollow, AtEach, is_door, is_in, is_part_order}

-- ---- doors

pub is-door : (n j : ℕ) → is_door n j ≡ true → IsDoor n j
is-door n j e = grind (arith, nat_tests)

pub door-is : (n j : ℕ) → IsDoor n j → is_door n j ≡ true
door-is n j d = grind (arith, nat_tests)

pub not-door : (n j : ℕ) → ¬ IsDoor n j → is_door n j ≡ false
not-door n j h = grind (arith, nat_tests)

-- ---- the tests tell what they say

pub is-in : (j : ℕ) (w : List ℕ) → is_in j w ≡ true → StandsIn j w
is-in j [] e = grind arith
is-in j (x ∷ w) e = grind (arith, nat_tests, is-in j w)

pub in_is : (j : ℕ) (w : List ℕ) → StandsIn j w → is_in j w ≡ true
in_is j [] h = grind arith
in_is j (x ∷ w) h = grind (arith, nat_tests, in_is j w)

pub is-part : (n : ℕ) (w : List ℕ) → is_part_order n w ≡ true → IsPartOrder n w
is-part n [] e = tt
is-part n (j ∷ w) e = grind (arith, nat_tests, in_is j w, is-part n w)

pub part-is : (n : ℕ) (w : List ℕ) → IsPartOrder n w → is_part_order n w ≡ true
part-is n [] p = refl
part-is n (j ∷ w) p = grind (arith, nat_tests, is-in j w, part-is n w)

-- ---- induction on part orders, by the last door

pub in_left : (u v : List ℕ) (j : ℕ) → StandsIn j u → StandsIn j (u ++ v)
in_left [] v j h = grind arith
in_left (x ∷ u) v j h = grind (arith, in_left u v j)

pub in-middle : (u v : List ℕ) (j : ℕ) → StandsIn j (u ++ j ∷ v)
in-middle [] v j = grind arith
in-middle (x ∷ u) v j = grind (arith, in-middle u v j)

-- a door of w followed by j
pub in-last : (w : List ℕ) (i j : ℕ) → StandsIn i (w ++ j ∷ []) → StandsIn i w ⊎ (i ≡ j)
in-last [] i j h = grind arith
in-last (x ∷ w) i j h = grind (arith, in-last w i j)

pub last-in : (w : List ℕ) (i j : ℕ) → StandsIn i w ⊎ (i ≡ j) → StandsIn i (w ++ j ∷ [])
last-in [] i j h = grind arith
last-in (x ∷ w) i j h = grind (arith, last-in w i j)

pub part-front : (n : ℕ) (u v : List ℕ) → IsPartOrder n (u ++ v) → IsPartOrder n u
part-front n [] v p = tt
part-front n (x ∷ u) v p = grind (arith, in_left u v x, part-front n u v)

part-at : (n : ℕ) (u : List ℕ) (j : ℕ) (v : List ℕ) → IsPartOrder n (u ++ j ∷ v) → IsDoor n j × (¬ StandsIn j u)
part-at n [] j v p = grind arith
part-at n (x ∷ u) j v p = grind (arith, in-middle u v j, part-at n u j v)

-- j comes after u in a part order
pub part-next : (n : ℕ) (u : List ℕ) (j : ℕ) (v : List ℕ) → IsPartOrder n (u ++ j ∷ v) → CanFollow n u j
part-next n u j v p = grind (arith, part-front n u (j ∷ v), part-at n u j v)

pub next-part : (n : ℕ) (w : List ℕ) (j : ℕ) → IsPartOrder n w → IsDoor n j → ¬ StandsIn j w → IsPartOrder n (w ++ j ∷ [])
next-part n [] j p d h = grind arith
next-part n (x ∷ w) j p d h = grind (arith, in-last w x j, next-part n w j)

module _ (n : ℕ) (P : List ℕ → Type 0) (more : (w : List ℕ) (j : ℕ) → CanFollow n w j → P w → P (w ++ j ∷ [])) where
  part-from : (u v : List ℕ) → IsPartOrder n (u ++ v) → P u → P (u ++ v)
  part-from u [] p h = rw append-nil h
  part-from u (x ∷ v) p h =
      let e = append_assoc u (x ∷ []) v in
      rw e at (part-from (u ++ x ∷ []) v (rw e p) (more u x (part-next n u x v p) h))

  pub part-ind : P [] → (w : List ℕ) → IsPartOrder n w → P w
  part-ind h w p = part-from [] w p h

-- ---- what holds at each door

nil-cons : (u : List ℕ) (j : ℕ) (v : List ℕ) → ¬ (◌≡◌ {A = List ℕ} [] (u ++ j ∷ v))
nil-cons [] j v e = cc
nil-cons (x ∷ u) j v e = cc

-- a door k of w followed by j is the last, or stands in w
last_or : (w : List ℕ) (j : ℕ) (u : List ℕ) (k : ℕ) (v : List ℕ) → w ++ j ∷ [] ≡ u ++ k ∷ v → ((u ≡ w) × (k ≡ j)) ⊎ ((t : List ℕ) × (w ≡ u ++ k ∷ t))
last_or [] j [] k v e = inl (refl, (cc))
last_or [] j (x ∷ u) k v e = absurd (nil-cons u k v (cc))
last_or (y ∷ w) j [] k v e = inr (w, (cc))
last_or (y ∷ w) j (x ∷ u) k v e = grind (arith, last_or w j u k v)

module _ (P : List ℕ → ℕ → Type 0) where
  pub each_none : AtEach P []
  each_none u j v e = absurd (nil-cons u j v e)

  pub each-front : (w x : List ℕ) → AtEach P (w ++ x) → AtEach P w
  each-front w x h u j v e = h u j (v ++ x) (rw (e, append_assoc))

  pub each_last : (w : List ℕ) (j : ℕ) → AtEach P (w ++ j ∷ []) → P w j
  each_last w j h = h w j [] refl

  pub each_more : (w : List ℕ) (j : ℕ) → AtEach P w → P w j → AtEach P (w ++ j ∷ [])
  each_more w j h p u k v e = grind (arith, last_or w j u k v, h u k)
