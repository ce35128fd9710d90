-- Members, unions and sizes of sets of doors.
use Rattle.std.proofs.Common.{◌≡◌, ℕ, zero, suc, ◌/◌, ◌%◌, ◌^◌, ◌<◌, ◌≤◌, true, false, ◌⊎◌, List, [], ◌∷◌, length, sym, refl, ap, ◌∙◌, le_refl, pow-suc, arith, pow_pos}
use lib.Bits.{bit_and, bit_or, or_step, or_zero_r, or_lt}
use lib.Count.{ones, ones_step, ones-le}
use lib.Pow.{pow-lt}
use Rattle.std.specs.Int.{bit_at}
use Rattle.std.proofs.lemmas.Bool.Decides.{nat_tests}
use Rattle.std.proofs.lemmas.Nat.Bits.{bit_at-suc, bit_at-lt, bit_at_and, bit_at_or, bit_at-zero, bit_at-pow_same, bit_at-pow_other, same_from_bits}
use Rattle.doors.specs.Sets.{Has, has, set_of}
use Rattle.doors.specs.Orders.{StandsIn, IsDoor, IsPartOrder}
pub use Rattle.std.proofs.lemmas.Nat.Bits.{bit_at_and as digit_and, bit_at-pow_same as digit-one, bit_at-pow_other as digit-other}

-- ---- members

pub has-none : (j : ℕ) → ¬ Has 0 j
has-none j h = grind (arith, bit_at-zero)

pub has_left : (a b j : ℕ) → Has a j → Has (bit_or a b) j
has_left a b j h = omega (arith, bit_at_or a b j)

pub has_right : (a b j : ℕ) → Has b j → Has (bit_or a b) j
has_right a b j h = omega (arith, bit_at_or a b j)

pub has_either : (a b j : ℕ) → Has (bit_or a b) j → Has a j ⊎ Has b j
has_either a b j h = grind (arith, bit_at_or a b j)

pub has-added : (m k : ℕ) → Has (bit_or m (2 ^ k)) k
has-added m k = has_right m (2 ^ k) k (bit_at-pow_same k)

pub has_more : (m k j : ℕ) → Has (bit_or m (2 ^ k)) j → (j ≡ k) ⊎ Has m j
has_more m k j h = grind (arith, bit_at_or m (2 ^ k) j, bit_at-pow_other k j)

-- the test says what the statement says
pub has-true : (m j : ℕ) → has m j ≡ true → Has m j
has-true m j e = grind (arith, nat_tests)

pub true-has : (m j : ℕ) → Has m j → has m j ≡ true
true-has m j h = grind (arith, nat_tests)

pub has-false : (m j : ℕ) → has m j ≡ false → ¬ Has m j
has-false m j e h = grind (arith, nat_tests)

pub within-and : (a b : ℕ) → ((j : ℕ) → Has a j → Has b j) → bit_and a b ≡ a
within-and a b h = same_from_bits (bit_and a b) a (λ j. one j)
  where
    one : (j : ℕ) → bit_at (bit_and a b) j ≡ bit_at a j
    one j = grind (arith, bit_at_and a b j, h j, bit_at-lt a j)

pub and-within : (a b j : ℕ) → bit_and a b ≡ a → Has a j → Has b j
and-within a b j e h = omega (arith, bit_at_and a b j, ap (λ (x : ℕ). bit_at x j) e)

-- ---- sizes

ones_none : ones 0 ≡ 0
unfolding ones
ones_none = refl

-- one door more
pub ones-added : (j m : ℕ) → ¬ Has m j → ones (bit_or m (2 ^ j)) ≡ suc (ones m)
ones-added zero m h =
    let x = bit_or m 1 in
    let half : x / 2 ≡ m / 2 = omega (arith, or_step m 1, or_zero_r (m / 2)) in
    omega (arith, or_step m 1, ones_step x, ones_step m, ap ones half, h)
ones-added (suc j) m h =
    let x = bit_or m (2 ^ suc j) in
    let pow_half : 2 ^ suc j / 2 ≡ 2 ^ j = omega (arith, pow-suc 2 j) in
    let half : x / 2 ≡ bit_or (m / 2) (2 ^ j) = omega (arith, pow-suc 2 j, or_step m (2 ^ suc j), ap (bit_or (m / 2)) pow_half) in
    let low : x % 2 ≡ m % 2 = omega (arith, pow-suc 2 j, or_step m (2 ^ suc j)) in
    let rest : ones (bit_or (m / 2) (2 ^ j)) ≡ suc (ones (m / 2)) = ones-added j (m / 2) (λ e. h (bit_at-suc m j ∙ e)) in
    omega (arith, ones_step x, ones_step m, ap ones half)

within-upto : (k a b : ℕ) → a ≤ k → ((j : ℕ) → Has a j → Has b j) → ones a ≤ ones b
within-upto zero a b p h =
    let none : a ≡ 0 = omega arith in
    omega (arith, ap ones none, ones_none)
within-upto (suc k) a b p h =
    let rest : ones (a / 2) ≤ ones (b / 2) = within-upto k (a / 2) (b / 2) (omega arith) (λ j e. sym (bit_at-suc b j) ∙ h (suc j) (bit_at-suc a j ∙ e)) in
    grind (arith, ones_step a, ones_step b, h 0)

-- a set within another is no larger
pub ones-within : (a b : ℕ) → ((j : ℕ) → Has a j → Has b j) → ones a ≤ ones b
ones-within a b h = within-upto a a b (le_refl a) h

-- ---- the set of a list

pub has-set : (w : List ℕ) (j : ℕ) → Has (set_of w) j → StandsIn j w
has-set [] j h = has-none j h
has-set (x ∷ w) j h = grind (arith, has-set w j, has_more (set_of w) x j)

pub ones-set : (n : ℕ) (w : List ℕ) → IsPartOrder n w → ones (set_of w) ≡ length w
ones-set n [] p = ones_none
ones-set n (x ∷ w) p = grind (arith, ones-added x (set_of w), has-set w x, ones-set n w)

-- a set that has each of k doors, none twice, has k doors or more
pub length-within : (n m : ℕ) (w : List ℕ) → IsPartOrder n w → ((j : ℕ) → StandsIn j w → Has m j) → length w ≤ ones m
length-within n m w p h = omega (arith, ones-set n w p, ones-within (set_of w) m (λ j e. h j (has-set w j e)))

set-lt : (n : ℕ) (w : List ℕ) → IsPartOrder n w → set_of w < 2 ^ suc n
set-lt n [] p = pow_pos (suc n)
set-lt n (x ∷ w) p = or_lt (suc n) (set_of w) (2 ^ x) (set-lt n w p.2) (pow-lt (omega arith))

pub part-door : (n : ℕ) (w : List ℕ) (j : ℕ) → IsPartOrder n w → StandsIn j w → IsDoor n j
part-door n [] j p h = absurd h
part-door n (x ∷ w) j p h = grind (arith, part-door n w j)

-- a part order of n doors has at most n
pub part_length : (n : ℕ) (w : List ℕ) → IsPartOrder n w → length w ≤ n
part_length n w p =
    let m = set_of w in
    let below : m / 2 < 2 ^ n = omega (arith, set-lt n w p, pow-suc 2 n) in
    let even : ¬ Has m 0 = λ e. omega (arith, (part-door n w 0 p (has-set w 0 e)).low) in
    omega (arith, ones-set n w p, ones_step m, ones-le n (m / 2) below)
