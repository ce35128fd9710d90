-- How long a sheet is.
use Rattle.std.proofs.Common.{◌≡◌, ℕ, ◌+◌, ◌*◌, ◌/◌, if◌then◌else◌, List, length, IsSome, Ok, Err, nat_lt, arith, length-append}
use Rattle.std.proofs.lemmas.Bool.Decides.{nat_tests}
use Rattle.std.proofs.lemmas.Grind.{common_steps}
use Rattle.round.specs.declared.table.Round.{Round}
use Rattle.diagram.specs.Musts.{musts}
use Rattle.packed.specs.declared.refusal.Refusal.TheVariants.{Short}
use Rattle.packed.specs.Requests.{Request, requests_of, requests_in}
use Rattle.packed.specs.Senses.{Recs}
use Rattle.packed.specs.Sheets.{first_words, head_words, sheet_words, sheet_after}
use Rattle.packed.proofs.Lists.{length-requests, length-answers}

pub length-first_words : (r : Round) (W k : ℕ) (xs : Recs) → length (first_words r W k xs) ≡ 6
unfolding first_words
length-first_words r W k xs = grind (arith, common_steps)

pub length-head_words : (r : Round) (W k : ℕ) (xs : Recs) → length (head_words r W k xs) ≡ 22
unfolding head_words musts
length-head_words r W k xs = grind (arith, common_steps, length-first_words r W k xs)

length-sheet_words : (r : Round) (W : ℕ) (cs : List Request) → length (sheet_words r W cs) ≡ 22 + length cs
unfolding sheet_words
length-sheet_words r W cs = grind (arith, length-append, length-head_words, length-answers)

-- a sheet takes 88 bytes and 4 for each call
pub long_of : (r : Round) (W : ℕ) (bs : List ℕ) → IsSome (requests_of bs) → 4 * length (sheet_words r W (requests_in bs)) ≡ 88 + length bs / 4
long_of r W bs h = let l = length-requests bs h in omega (arith, length-sheet_words r W (requests_in bs))

pub calls_sheet : (r : Round) (W room : ℕ) (bs : List ℕ) → IsSome (requests_of bs)
    → sheet_after r W room (requests_of bs) ≡ (if nat_lt room (88 + length bs / 4) then Err Short else Ok (sheet_words r W (requests_in bs)))
calls_sheet r W room bs h = grind (arith, nat_tests, long_of r W bs)
