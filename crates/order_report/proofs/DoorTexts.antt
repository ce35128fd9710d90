-- The texts of the doors 1 to 16, in bytes that are read one by one.
use Rattle.std.proofs.Common.{◌≡◌, ℕ, ◌+◌, ◌/◌, ◌%◌, ◌<◌, ◌≤◌, ◌⊎◌, List, [], ◌∷◌, ◌++◌, length, decimal, slice_index_or, inl, inr, ⊎_elim, ap, ap₂, ◌∙◌, sym, refl, arith}
use Rattle.std.proofs.lemmas.Bool.{cases_lt}
use Rattle.std.proofs.lemmas.Fmt.{decimal_digit, decimal_step}
use Rattle.std.proofs.lemmas.Slice.Eq.{text_from_reads}
use Rattle.order_report.specs.Named.{IsDoorText}

-- the bytes are the digit of j
pub record OneDigit (bytes : List ℕ) (j : ℕ) : Type 0 where
  pub long : length bytes ≡ 1
  pub digit : slice_index_or bytes 0 0 ≡ 48 + j
  pub low : 1 ≤ j
  pub high : j ≤ 9

-- the bytes are a 1 and the last digit of j
pub record TwoDigits (bytes : List ℕ) (j : ℕ) : Type 0 where
  pub long : length bytes ≡ 2
  pub first : slice_index_or bytes 0 0 ≡ 49
  pub last : slice_index_or bytes 1 0 ≡ 38 + j
  pub low : 10 ≤ j
  pub high : j ≤ 16

teen : (j : ℕ) → 10 ≤ j → j ≤ 16 → decimal j ≡ 49 ∷ (38 + j) ∷ []
teen j low high =
    let q : j / 10 ≡ 1 = omega arith in
    let r : 48 + j % 10 ≡ 38 + j = omega arith in
    decimal_step j low (omega arith) ∙ ap₂ (λ (ds : List ℕ) (d : ℕ). ds ++ (d ∷ [])) (ap decimal q ∙ decimal_digit 1 (omega arith)) r

pub one_digit_text : (text bytes : List ℕ) (j : ℕ) → bytes ≡ text → OneDigit bytes j → IsDoorText 16 text j
one_digit_text text bytes j e d = record {
  door = record { low = d.low; high = omega arith };
  digits = sym e ∙ text_from_reads bytes ((48 + j) ∷ []) d.long (d.digit, tt) ∙ sym (decimal_digit j (omega arith));
}

pub two_digits_text : (text bytes : List ℕ) (j : ℕ) → bytes ≡ text → TwoDigits bytes j → IsDoorText 16 text j
two_digits_text text bytes j e d = record {
  door = record { low = omega arith; high = d.high };
  digits = sym e ∙ text_from_reads bytes (49 ∷ (38 + j) ∷ []) d.long (d.first, (d.last, tt)) ∙ sym (teen j d.low d.high);
}

-- no other bytes are the text of a door
pub digits_of_door : (text bytes : List ℕ) (j : ℕ) → bytes ≡ text → IsDoorText 16 text j → OneDigit bytes j ⊎ TwoDigits bytes j
digits_of_door text bytes j e t = ⊎_elim (λ h. inl (one h)) (λ h. inr (two h)) (cases_lt j 10)
  where
    one : j < 10 → OneDigit bytes j
    one h =
        let same : bytes ≡ (48 + j) ∷ [] = e ∙ t.digits ∙ decimal_digit j h in
        rw same (record { long = refl; digit = refl; low = t.door.low; high = omega arith })

    two : 10 ≤ j → TwoDigits bytes j
    two h =
        let same : bytes ≡ 49 ∷ (38 + j) ∷ [] = e ∙ t.digits ∙ teen j h t.door.high in
        rw same (record { long = refl; first = refl; last = refl; low = h; high = t.door.high })
