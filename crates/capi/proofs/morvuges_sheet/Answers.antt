use Rattle.std.proofs.Common.{◌≡◌, ◌^◌, ◌<◌, Ok, Err, length, rules, arith, w64, FitsSigned, to_z, ap, ◌∙◌}
use Rattle.std.proofs.lemmas.Int.{to_z_pos, to_z-of_z}
use Rattle.packed.specs.Sheets.{sheet_of, byte_count, code}
use Rattle.packed.proofs.OnReads.{on-read-map}
use Rattle.capi.proofs.morvuges_sheet.Goals as goal

pub returns-in-Ok-clause-answer : goal.returns-in-Ok-clause-answer
returns-in-Ok-clause-answer c =
    let small : c.in-Ok.long < 2 ^ 63 = omega (arith, c.in-Ok.ensures.within) in
    on-read-map c.args.text.now
    (λ t. Ok c.in-Ok.long ≡ byte_count (sheet_of c.args.width c.args.calls.now (length c.args.out.now) t))
    (λ t. to_z w64 c.in-Ok.long ≡ code (byte_count (sheet_of c.args.width c.args.calls.now (length c.args.out.now) t)))
    (λ t e. to_z_pos w64 c.in-Ok.long small ∙ ap code e) c.in-Ok.ensures.answer

pub returns-in-Err-clause-answer : goal.returns-in-Err-clause-answer
returns-in-Err-clause-answer c =
    let z = c.code.result in
    let fits : FitsSigned w64 z = search (rules, c.code.type_inv) in
    on-read-map c.args.text.now
    (λ t. Err c.in-Err.refusal ≡ byte_count (sheet_of c.args.width c.args.calls.now (length c.args.out.now) t)) _
    (λ t e. to_z-of_z w64 z fits ∙ c.code.ensures ∙ ap code e) c.in-Err.ensures.answer
