-- The number that a word writes.
use Rattle.std.proofs.Common.{◌≡◌, ℕ, ◌<◌, true, List, length, min, codes, Ok, Err, Result, arith, ◌^◌}
use Rattle.std.specs.Result.{result_unwrap_or, OkIff}
use Rattle.std.specs.Str.{all_ascii_digits}
use Rattle.std.specs.Str.Parse.{digits_value, ParsesUnsigned}
use Rattle.std.proofs.lemmas.Bool.Decides.{nat_tests}
use Rattle.std.proofs.lemmas.List.{get_or_past}
use Rattle.std.proofs.lemmas.Slice.Eq.{bytes_eq-Decides}
use Rattle.std.proofs.lemmas.Str.Parse.{parse_digits}
use Rattle.text.specs.Number.{plain}
use Rattle.text.proofs.Numbers.{own}

-- what is parsed is the number, or else the number is above all that fit
least : {E : Type 0} (word : List ℕ) (r : Result ℕ E) → OkIff r ((0 < length word) × (digits_value 10 word < 2 ^ 64)) (digits_value 10 word) → 0 < length word
    → result_unwrap_or r 18446744073709551615 ≡ min 18446744073709551615 (digits_value 10 word)
least word (Ok k) h l = grind (arith, h)
least word (Err e) h l = grind (arith, h)

-- the number of digits with no leading zero
pub number_read : {E : Type 0} (word : List ℕ) (r : Result ℕ E) → plain word ≡ true → ParsesUnsigned 64 10 word r
    → result_unwrap_or r 18446744073709551615 ≡ min 18446744073709551615 (digits_value 10 word)
number_read word r p h =
    let q : (all_ascii_digits word ≡ true) × (0 < length word) = grind (arith, nat_tests, bytes_eq-Decides word (codes "0"), get_or_past word 0 0) in
    least word r (parse_digits own 64 word r h q.0) q.1
