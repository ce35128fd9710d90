use Rattle.std.proofs.Common.{◌≡◌, ℕ, ◌+◌, ◌<◌, false, nat_eq, ◌∷◌, length, take, drop, subst, arith, rules, tests}
use Rattle.std.proofs.lemmas.List.{take_rest}
use Rattle.std.proofs.lemmas.List.Elements.{All-from_get_or}
use Rattle.std.proofs.lemmas.List.Splits.{slice_split_first, slice_split_none}
use Rattle.std.proofs.lemmas.List.Sums.{position_or_len_is}
use Rattle.text.specs.Pieces.{pieces}
use Rattle.text.proofs.cut.cut_at.Goals as goal

-- the first separator ends the first piece
pub returns-in-Some-clause-parts : goal.returns-in-Some-clause-parts
returns-in-Some-clause-parts c =
    let a = c.args.bytes.now in
    let test = λ (b : ℕ). nat_eq b c.args.sep in
    let within : c.in-Some.n < length a = search rules in
    let first = position_or_len_is test a c.in-Some.n 0 (omega arith) (λ k l. search (rules, tests)) (λ _. search (rules, tests)) in
    rw take_rest (subst (λ i. pieces c.args.sep a ≡ take i a ∷ pieces c.args.sep (drop (i + 1) a)) first (slice_split_first test a 0 (omega (arith, first))))

pub returns-in-None-clause-parts : goal.returns-in-None-clause-parts
returns-in-None-clause-parts c =
    slice_split_none (λ b. nat_eq b c.args.sep) c.args.bytes.now (All-from_get_or (λ b. nat_eq b c.args.sep ≡ false) c.args.bytes.now 0 (λ k l. search (rules, tests)))
