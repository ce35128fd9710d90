-- Sets of doors: one door more or less, and the set of all doors.
use Rattle.std.proofs.Common.{◌≡◌, ℕ, suc, ◌+◌, ◌-◌, ◌*◌, ◌/◌, ◌%◌, ◌^◌, ◌≤◌, List, [], ◌∷◌, ◌++◌, length, refl, ap, ◌∙◌, ⊎_elim, pow-suc, zero-mul, arith}
use lib.Bits.{bit_and, bit_or, bit_xor, or_disjoint, xor_add_and}
use lib.Count.{ones, ones_step, ones-ones}
use Rattle.std.specs.Int.{bit_at}
use Rattle.std.proofs.lemmas.Bool.{cases_Bool}
use Rattle.std.proofs.lemmas.Nat.Bits.{and_pow, bit_at-lt, bit_at_or, bit_at_xor, bit_at-pow_same, bit_at_mask_inside, bit_at_mask_below, bit_at_mask_above, same_from_bits}
use Rattle.std.proofs.lemmas.Nat.{shl_whole}
use Rattle.doors.specs.Orders.{StandsIn, IsDoor, IsPartOrder, is_in}
use Rattle.doors.specs.Sets.{Has, set_of}
use Rattle.doors.proofs.Orders.{is-in, in_is}
use Rattle.doors.proofs.Sets.{has_left, has-added, has-set, ones-set, part-door, part_length}

-- ---- one door more, one less

pub in_set : (w : List ℕ) (j : ℕ) → StandsIn j w → Has (set_of w) j
in_set [] j h = absurd h
in_set (x ∷ w) j h = grind (arith, in_set w j, has_left (set_of w) (2 ^ x) j, has-added (set_of w) x)

or_swap : (a b c : ℕ) → bit_or (bit_or a b) c ≡ bit_or (bit_or a c) b
or_swap a b c =
    same_from_bits (bit_or (bit_or a b) c) (bit_or (bit_or a c) b)
    (λ i. omega (arith, bit_at_or (bit_or a b) c i, bit_at_or (bit_or a c) b i, bit_at_or a b i, bit_at_or a c i))

pub set_or-last : (w : List ℕ) (j : ℕ) → set_of (w ++ j ∷ []) ≡ bit_or (set_of w) (2 ^ j)
set_or-last [] j = refl
set_or-last (x ∷ w) j = ap (λ (m : ℕ). bit_or m (2 ^ x)) (set_or-last w j) ∙ or_swap (set_of w) (2 ^ j) (2 ^ x)

pub set-last : (w : List ℕ) (j : ℕ) → ¬ StandsIn j w → set_of (w ++ j ∷ []) ≡ set_of w + 2 ^ j
set-last w j new =
    let m = set_of w in
    let none : bit_at m j ≡ 0 = grind (arith, bit_at-lt m j, has-set w j) in
    let apart : bit_and m (2 ^ j) ≡ 0 = and_pow m j ∙ ap (λ (x : ℕ). x * 2 ^ j) none ∙ zero-mul (2 ^ j) in
    set_or-last w j ∙ or_disjoint m (2 ^ j) apart

pub without-sum : (m j : ℕ) → Has m j → bit_xor m (2 ^ j) + 2 ^ j ≡ m
without-sum m j h = let e = rw h at (and_pow m j) in omega (arith, xor_add_and m (2 ^ j))

pub without-gone : (m j : ℕ) → Has m j → ¬ Has (bit_xor m (2 ^ j)) j
without-gone m j h e = omega (arith, bit_at_xor m (2 ^ j) j, bit_at-pow_same j)

-- ---- all doors

stands : (n : ℕ) (w : List ℕ) (j : ℕ) → IsPartOrder n w → length w ≡ n → IsDoor n j → StandsIn j w
stands n w j p e d = ⊎_elim (is-in j w) (λ f. absurd (grind (arith, in_is j w, part_length n (j ∷ w)))) (cases_Bool (is_in j w))

pub full-set : (n : ℕ) (w : List ℕ) → IsPartOrder n w → length w ≡ n → set_of w ≡ 2 ^ suc n - 2
full-set n w p e =
    same_from_bits (set_of w) (2 ^ suc n - 2)
    (λ i. grind (arith, bit_at-lt (set_of w) i, has-set w i, in_set w i, stands n w i p e, part-door n w i p, bit_at_mask_inside 1 (suc n) i, bit_at_mask_below 1 (suc n) i, bit_at_mask_above 1 (suc n) i))

pub set-full : (n : ℕ) (w : List ℕ) → IsPartOrder n w → set_of w ≡ 2 ^ suc n - 2 → length w ≡ n
set-full n w p e =
    let half : (2 ^ suc n - 2) / 2 ≡ 2 ^ n - 1 = omega (arith, pow-suc 2 n) in
    omega (arith, pow-suc 2 n, ones-set n w p, ap ones e, ones_step (2 ^ suc n - 2), ap ones half, ones-ones n)

-- the mask of all doors, as the code computes it
pub all-mask : (n : ℕ) → n ≤ 16 → 2 * 2 ^ n % 2 ^ 32 - 2 ≡ 2 ^ suc n - 2
all-mask n small = omega (arith, shl_whole 2 2 n 32 (omega arith) (omega arith), pow-suc 2 n)
