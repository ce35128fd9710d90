use Rattle.std.proofs.Common.{◌≡◌, rules, w64, FitsSigned, ap, ◌∙◌}
use Rattle.std.proofs.lemmas.Int.{to_z-of_z}
use Rattle.packed.specs.declared.often.Question.TheVariants.{Settled}
use Rattle.packed.specs.Often.{asked_often}
use Rattle.packed.specs.Sheets.{code}
use Rattle.packed.proofs.OnReads.{on-read-map}
use Rattle.capi.proofs.morvuges_settled_often.Goals as goal

pub returns : goal.returns
returns c =
    let fits : FitsSigned w64 c.code_of.result = search (rules, c.code_of.type_inv) in
    on-read-map c.args.text.now (λ t. c.ask_often.result ≡ asked_often Settled c.args.width c.args.times t) _ (λ t e. to_z-of_z w64 c.code_of.result fits ∙ c.code_of.ensures ∙ ap code e) c.ask_often.ensures
