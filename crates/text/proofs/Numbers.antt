-- What the tests of a field's bytes tell, and how numbers are written.
use Rattle.std.proofs.Common.{◌≡◌, ◌⊎◌, ℕ, zero, suc, ◌+◌, ◌-◌, ◌*◌, ◌<◌, ◌≤◌, true, ◌&&◌, List, [], ◌∷◌, length, slice_index_or, take, drop, ℤ, pos, negsuc, neg_ℤ, ◌≤ℤ◌, Ok, codes, decimal, sym, refl, ap, ◌∙◌, subst, ⊎_elim, arith, le-leb, lt-ltb}
use borrow.Author.Differences.{ints}
use Rattle.std.specs.Char.{digit_value, is_ascii_digit}
use Rattle.std.specs.Fmt.{signed_decimal}
use Rattle.std.specs.List.{list_all}
use Rattle.std.specs.Str.{all_ascii_digits}
use Rattle.std.specs.Str.Parse.{digits_value}
use Rattle.std.proofs.lemmas.Bool.{cases_eq, and_from, or_right}
use Rattle.std.proofs.lemmas.Bool.Decides.{nat_tests}
use Rattle.std.proofs.lemmas.Fmt.{decimal-digits_value, decimal_digit, digits_decimal, digits_value-decimal, first_decimal}
use Rattle.std.proofs.lemmas.Int.Digits.{digits_value_more}
use Rattle.std.proofs.lemmas.List.{get_or_past, take_rest}
use Rattle.std.proofs.lemmas.Slice.Eq.{bytes_eq-Decides}
use Rattle.std.proofs.lemmas.Str.Parse.{IsNumeralModel, numerals_by_value, tells_all_ascii_digits, digit_at}
use Rattle.text.specs.Fields.{number_in, change_in}
use Rattle.text.specs.Number.{plain, positive, minus}

-- each byte is a digit
pub all-digits : (a : List ℕ) → list_all is_ascii_digit a ≡ all_ascii_digits a
all-digits [] = refl
all-digits (x ∷ a) = ap (λ t. is_ascii_digit x && t) (all-digits a)

-- the first digit is not 0, and the rest tells
pub positive_rest : (a : List ℕ) → 1 ≤ length a → 49 ≤ slice_index_or a 0 0 → slice_index_or a 0 0 ≤ 57 → list_all is_ascii_digit (take (length a - 1) (drop 1 a)) ≡ positive a
positive_rest [] l m n = absurd (omega arith)
positive_rest (x ∷ a) l m n = rw (take_rest (x ∷ a) 1) (grind (arith, nat_tests, all-digits a))

-- digits are numerals, and this is their value
pub own : IsNumeralModel (λ ds. all_ascii_digits ds ≡ true) (digits_value 10)
own = numerals_by_value _ tells_all_ascii_digits

-- one digit more
pub value_step : (a : List ℕ) (i : ℕ) → all_ascii_digits a ≡ true → i < length a → (48 ≤ slice_index_or a i 0) × (slice_index_or a i 0 ≤ 57) × (digits_value 10 (take (i + 1) a) ≡ digits_value 10 (take i a) * 10 + (slice_index_or a i 0 - 48))
value_step a i h l =
    let d = digit_at a i (own.to a h) l in
    let v : digit_value (slice_index_or a i 0) ≡ slice_index_or a i 0 - 48 = grind (arith, nat_tests) in
    (d.0, d.1, rw v at (digits_value_more 10 a i l))

-- ---- from the bytes to the number

-- digits with no leading zero are how their value is written
decimal-plain : (f : List ℕ) → plain f ≡ true → digits_value 10 f ≤ 9999 → decimal (digits_value 10 f) ≡ f
decimal-plain f e l =
    let p : (all_ascii_digits f ≡ true) × (0 < length f) × (slice_index_or f 0 0 ≡ 48 → length f ≡ 1) = grind (arith, nat_tests, bytes_eq-Decides f (codes "0"), get_or_past f 0 0) in
    decimal-digits_value own f p.0 p.1 p.2 (omega arith)

-- v is a number from low to high, and f is how it is written
pub record Says (low high : ℕ) (f : List ℕ) (v : ℕ) : Type 0 where
  pub text : decimal v ≡ f
  pub from : low ≤ v
  pub to : v ≤ high

-- a number that is read is written so
pub number-says : (low high : ℕ) (f : List ℕ) (line k v : ℕ) → high ≤ 9999 → number_in low high f line k ≡ Ok v → Says low high f v
number-says low high f line k v l e =
    let q : (plain f ≡ true) × (digits_value 10 f ≡ v) × (low ≤ v) × (v ≤ high) = grind (arith, nat_tests) in
    record { text = ap decimal (sym q.1) ∙ decimal-plain f q.0 (omega (arith, q.1)); from = q.2; to = q.3 }

-- z is a change, and f is how it is written
pub record Changes (f : List ℕ) (z : ℤ) : Type 0 where
  pub text : signed_decimal z ≡ f
  pub low : negsuc 98 ≤ℤ z
  pub high : z ≤ℤ pos 99

-- a change below 0
changes-minus : (f : List ℕ) (v : ℕ) → minus f ≡ true → decimal v ≡ drop 1 f → v ≤ 99 → Changes f (neg_ℤ (pos v))
changes-minus [] v e d l = absurd (grind (arith, nat_tests))
changes-minus (b ∷ f) zero e d l = absurd (grind (arith, nat_tests, decimal_digit 0 (omega arith)))
changes-minus (b ∷ f) (suc v) e d l =
    let p : b ≡ 45 = grind (arith, nat_tests) in
    record { text = cc; low = omega (arith, ints); high = omega (arith, ints) }

-- a change that is read is written so
pub change-says : (f : List ℕ) (line k : ℕ) (z : ℤ) → change_in f line k ≡ Ok z → Changes f z
change-says f line k z e =
    let v = digits_value 10 f in
    let w = digits_value 10 (drop 1 f) in
    let q : ((plain f ≡ true) × (v ≤ 99) × (pos v ≡ z)) ⊎ ((minus f ≡ true) × (w ≤ 99) × (neg_ℤ (pos w) ≡ z)) = grind (arith, nat_tests) in
    ⊎_elim
    (λ p. subst (Changes f) p.2 (record { text = decimal-plain f p.0 (omega (arith, p.1)); low = omega (arith, ints, p.1); high = omega (arith, ints, p.1) }))
    (λ m. subst (Changes f) m.2 (changes-minus f w m.0 (decimal-plain (drop 1 f) (grind (arith, nat_tests, m.0)) (omega (arith, m.1))) m.1))
    q

-- ---- from the number to the bytes

-- a number other than 0 is written by digits that do not start with 0
positive-decimal : (v : ℕ) → 0 < v → v ≤ 9999 → positive (decimal v) ≡ true
positive-decimal v p l =
    and_from _ _ (lt-ltb 48 (slice_index_or (decimal v) 0 0) (first_decimal v p (omega arith))) (digits_decimal own v (omega arith))

-- any number is written with no leading zero
plain-decimal : (v : ℕ) → v ≤ 9999 → plain (decimal v) ≡ true
plain-decimal v l =
    ⊎_elim (λ z. rw (z, decimal_digit 0 (omega arith))) (λ n. or_right _ _ (positive-decimal v (omega arith) l)) (cases_eq v 0)

-- a number in range is read as it is written
pub number-back : (low high v line k : ℕ) → low ≤ v → v ≤ high → high ≤ 9999 → number_in low high (decimal v) line k ≡ Ok v
number-back low high v line k l m h =
    rw (plain-decimal v (omega arith), digits_value-decimal own v (omega arith), le-leb low v l, le-leb v high m)

-- so is a change
pub change-back : (z : ℤ) (line k : ℕ) → negsuc 98 ≤ℤ z → z ≤ℤ pos 99 → change_in (signed_decimal z) line k ≡ Ok z
change-back (pos v) line k l h =
    let small : v ≤ 99 = omega (arith, ints) in
    rw (plain-decimal v (omega arith), digits_value-decimal own v (omega arith), le-leb v 99 small)
change-back (negsuc v) line k l h =
    let small : suc v ≤ 99 = omega (arith, ints) in
    rw (positive-decimal (suc v) (omega arith) (omega arith), digits_value-decimal own (suc v) (omega arith), le-leb (suc v) 99 small)
