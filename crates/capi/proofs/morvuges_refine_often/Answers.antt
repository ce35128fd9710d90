use Rattle.std.proofs.Common.{◌≡◌, rules, w64, FitsSigned, ap, ◌∙◌}
use Rattle.std.proofs.lemmas.Int.{to_z-of_z}
use Rattle.packed.specs.Often.{often_of}
use Rattle.packed.specs.Sheets.{code}
use Rattle.packed.proofs.OnReads.{on-read-map}
use Rattle.capi.proofs.morvuges_refine_often.Goals as goal

pub returns : goal.returns
returns c =
    let fits : FitsSigned w64 c.code_of.result = search (rules, c.code_of.type_inv) in
    on-read-map c.args.text.now (λ t. c.refine_often.result ≡ often_of c.args.width c.args.times t) _ (λ t e. to_z-of_z w64 c.code_of.result fits ∙ c.code_of.ensures ∙ ap code e) c.refine_often.ensures
