use Rattle.std.proofs.Common.{nat_eq, length, rules, tests}
use Rattle.std.proofs.lemmas.Iterator.Search.{any_from_yields_List}
use Rattle.std.proofs.lemmas.Iterator.Splits.{YieldsList-from_slice_split}
use Rattle.text.proofs.flaw.has_empty_field.Goals as goal

pub returns : goal.returns
returns c =
    let split = c.split.ensures in
    any_from_yields_List (λ f. nat_eq (length f) 0) _ _ _ c.any.ensures.ran
    (YieldsList-from_slice_split _ (λ b. nat_eq b 9) c.args.line.now split.rest split.done split.closure (λ x b q k. search (rules, tests)))
    (λ x b q k. search (rules, tests))
