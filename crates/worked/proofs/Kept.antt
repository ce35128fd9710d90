-- The orders of three doors that the worked cases name: which are allowed, and which keep the load.
use Rattle.std.proofs.Common.{◌≡◌, ℕ, zero, suc, ◌≤◌, ◌⊎◌, List, [], ◌∷◌, length, ℤ, pos, negsuc, ◌≤ℤ◌, refl, subst, subst₂, inl, inr, ⊎_elim, arith}
use Rattle.std.proofs.lemmas.Int.{ints}
use Rattle.doors.specs.Orders.{IsDoor, IsPartOrder, AtEach}
use Rattle.doors.proofs.Orders.{is-part, each_none, each_more}
use Rattle.doors.proofs.Sets.{has-none}
use Rattle.round.specs.Clock.{finish}
use Rattle.round.proofs.Fresh.{all_same}
use Rattle.rules.specs.Keepers.{IsSpaced}
use Rattle.rules.specs.KeepersLaws.{apart-each}
use Rattle.rules.specs.Loads.{load_of}
use Rattle.orders.specs.Allowed.{IsAllowed}
use Rattle.worked.specs.Rounds.{trio, boxes, two_kept}
use Rattle.allowed.specs.Orders.{KeepsRules}
use Rattle.worked.specs.Cases.{Loaded, TwoKeep}

-- what holds at each of three doors
at-three : (P : List ℕ → ℕ → Type 0) (a b c : ℕ) → P [] a → P (a ∷ []) b → P (a ∷ b ∷ []) c → AtEach P (a ∷ b ∷ c ∷ [])
at-three P a b c x y z = each_more P (a ∷ b ∷ []) c (each_more P (a ∷ []) b (each_more P [] a (each_none P) x) y) z

module _ (c : ℕ) (h : c ≤ 9999) where
  -- 1, 3, 2 finishes at 2, 6, 8; there are no pairs, no changes of load and no keepers
  pub allowed : 8 ≤ c → IsAllowed (trio c h) (KeepsRules (trio c h)) (1 ∷ 3 ∷ 2 ∷ [])
  unfolding finish
  allowed l = record {
    part = is-part 3 (1 ∷ 3 ∷ 2 ∷ []) refl;
    whole = refl;
    keeps = ((at-three _ 1 3 2 (λ i p. absurd (has-none i p)) (λ i p. absurd (has-none i p)) (λ i p. absurd (has-none i p)), at-three _ 1 3 2 (omega (arith, ints)) (omega (arith, ints)) (omega (arith, ints))), λ u i j v e k. k.0 (all_same {A = ℕ} 17 0 j));
    timely = at-three _ 1 3 2 (omega arith) (omega arith) (omega arith);
  }

  -- 1, 2, 3 ends at 9, and door 3 closes at 8
  pub not_allowed : IsAllowed (trio c h) (KeepsRules (trio c h)) (1 ∷ 2 ∷ 3 ∷ []) → ⊥
  unfolding finish
  not_allowed a = let t : 9 ≤ 8 = a.timely (1 ∷ 2 ∷ []) 3 [] refl in omega arith

-- ---- the keepers

-- in 1, 3, 2 no two doors of one keeper follow each other: door 3 has none
pub spaced-one : IsSpaced two_kept (1 ∷ 3 ∷ 2 ∷ [])
spaced-one = apart-each two_kept (1 ∷ 3 ∷ 2 ∷ []) (at-three _ 1 3 2 (λ k. cc (k.1)) (λ k. k.0 refl) (λ k. cc (k.1)))

-- ---- the load

-- the load after the doors of w, of changes 1, 1 and −2
abbrev boxed : List ℕ → ℤ
boxed w = load_of 0 boxes.doors w

one-or-two : (j : ℕ) → IsDoor 3 j → (j ≡ 3 → ⊥) → (j ≡ 1) ⊎ (j ≡ 2)
one-or-two zero d h = absurd (omega arith)
one-or-two (suc zero) d h = inl refl
one-or-two (suc (suc zero)) d h = inr refl
one-or-two (suc (suc (suc j))) d h = absurd (omega arith)

-- door 3 is not the first, nor the second: the load would fall below 0
not_first : (a : ℕ) → pos 0 ≤ℤ boxed (a ∷ []) → a ≡ 3 → ⊥
not_first a h e = let l : pos 0 ≤ℤ negsuc 1 = subst (λ (j : ℕ). pos 0 ≤ℤ boxed (j ∷ [])) e h in l.le

not-second : (a b : ℕ) → (a ≡ 1) ⊎ (a ≡ 2) → pos 0 ≤ℤ boxed (a ∷ b ∷ []) → b ≡ 3 → ⊥
not-second a b x h e =
    let go : (i : ℕ) → a ≡ i → pos 0 ≤ℤ boxed (i ∷ 3 ∷ []) = λ i y. subst₂ (λ (i j : ℕ). pos 0 ≤ℤ boxed (i ∷ j ∷ [])) y e h in
    ⊎_elim (λ y. let l : pos 0 ≤ℤ negsuc 0 = go 1 y in l.le) (λ y. let l : pos 0 ≤ℤ negsuc 0 = go 2 y in l.le) x

-- so the first two are 1 and 2, in either order, and door 3 is the last
only : (w : List ℕ) → IsPartOrder 3 w → length w ≡ 3 → Loaded boxes w → (w ≡ 1 ∷ 2 ∷ 3 ∷ []) ⊎ (w ≡ 2 ∷ 1 ∷ 3 ∷ [])
only [] p l k = absurd (omega arith)
only (a ∷ []) p l k = absurd (omega arith)
only (a ∷ b ∷ []) p l k = absurd (omega arith)
only (a ∷ b ∷ c ∷ []) p l k =
    let first : (a ≡ 1) ⊎ (a ≡ 2) = one-or-two a p.0 (not_first a (k [] a (b ∷ c ∷ []) refl).0) in
    let second : (b ≡ 1) ⊎ (b ≡ 2) = one-or-two b p.2.0 (not-second a b first (k (a ∷ []) b (c ∷ []) refl).0) in
    let ab : a ≡ b → ⊥ = λ e. p.1 (inl e) in
    let ac : a ≡ c → ⊥ = λ e. p.1 (inr (inl e)) in
    let bc : b ≡ c → ⊥ = λ e. p.2.1 (inl e) in
    let third : c ≡ 3 = omega (arith, p.2.2.0) in
    ⊎_elim
    (λ x. inl (let y : b ≡ 2 = omega arith in λ i. x i ∷ y i ∷ third i ∷ []))
    (λ x. inr (let y : b ≡ 1 = omega arith in λ i. x i ∷ y i ∷ third i ∷ []))
    first
only (a ∷ b ∷ c ∷ d ∷ w) p l k = absurd (omega arith)

pub two-keep : TwoKeep boxes
two-keep = record {
  these = (at-three _ 1 2 3 (omega (arith, ints)) (omega (arith, ints)) (omega (arith, ints)), at-three _ 2 1 3 (omega (arith, ints)) (omega (arith, ints)) (omega (arith, ints)));
  only = only;
}
