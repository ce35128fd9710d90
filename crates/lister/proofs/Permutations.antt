-- Lists have the same numbers if each stands in them equally often.
use Rattle.std.proofs.Common.{◌≡◌, ℕ, suc, ◌+◌, ◌<◌, List, [], ◌∷◌, length, get_or, sum_by, remove, ⊎_elim, arith}
use Rattle.std.specs.Prelude.{if◌then◌else◌, ◌==◌}
use Rattle.std.specs.List.Sorted.{IsPermutation}
use Rattle.std.proofs.lemmas.Bool.{cases_eq}
use Rattle.std.proofs.lemmas.Bool.Decides.{nat_tests}
use Rattle.std.proofs.lemmas.List.Sums.{sum_by-cons}
use Rattle.std.proofs.lemmas.List.Sorted.{IsPermutation-refl, IsPermutation-cons, IsPermutation-sym, IsPermutation-trans, IsPermutation-remove, sum_by-IsPermutation}

-- 1 where y is v, else 0
abbrev pub one : ℕ → ℕ → ℕ
one v y = if v == y then 1 else 0

-- how often v stands in w
abbrev pub times : ℕ → List ℕ → ℕ
times v w = sum_by (one v) w

pub times-cons : (v x : ℕ) (w : List ℕ) → times v (x ∷ w) ≡ one v x + times v w
times-cons v x w = sum_by-cons (one v) x w

-- a place of what stands in w
place : (v : ℕ) (w : List ℕ) → 0 < times v w → (i : ℕ) × (i < length w) × (v ≡ get_or w i v)
place v [] h = absurd (omega arith)
place v (x ∷ w) h =
    ⊎_elim (λ e. (0, omega arith, e))
    (λ n. let q = place v w (grind (arith, nat_tests, times-cons v x w)) in (suc q.0, omega (arith, q.1), q.2)) (cases_eq v x)

pub permuted : (v w : List ℕ) → ((k : ℕ) → times k v ≡ times k w) → IsPermutation v w
permuted [] [] e = IsPermutation-refl []
permuted [] (y ∷ w) e = absurd (grind (arith, nat_tests, e y, times-cons y y w))
permuted (x ∷ v) w e =
    let q = place x w (grind (arith, nat_tests, e x, times-cons x x v)) in
    let rest = remove w q.0 in
    let p = IsPermutation-remove w q.0 x q.1 q.2 in
    let same : (k : ℕ) → times k v ≡ times k rest = λ k. omega (arith, e k, times-cons k x v, times-cons k x rest, sum_by-IsPermutation (one k) w (x ∷ rest) p) in
    IsPermutation-trans (x ∷ v) (x ∷ rest) w (IsPermutation-cons x v rest (permuted v rest same)) (IsPermutation-sym w (x ∷ rest) p)

-- without the same first number
pub unled : (x z : ℕ) (v w : List ℕ) → x ≡ z → IsPermutation (x ∷ v) (z ∷ w) → IsPermutation v w
unled x z v w h p = permuted v w (λ k. grind (arith, sum_by-IsPermutation (one k) (x ∷ v) (z ∷ w) p, times-cons k x v, times-cons k z w))
