use Rattle.std.proofs.Common.{nat_eq, [], slice_index_or, ap, ◌∙◌, rules, tests}
use Rattle.std.proofs.lemmas.Iterator.Consumers.{YieldsList-at, YieldsList-end}
use Rattle.std.proofs.lemmas.Iterator.Splits.{YieldsList-from_slice_split}
use Rattle.text.proofs.fields.Line.new.Goals as goal

-- the loop has seen all pieces
pub invariant_of-result : goal.invariant_of-result
invariant_of-result c =
    let split = c.split-field-items.ensures in
    let all = YieldsList-end
    (YieldsList-at c.into_iter-field-iterator.ensures.into_iter_gives
    (YieldsList-from_slice_split _ (λ b. nat_eq b 9) c.args.bytes.now split.rest split.done split.closure (λ x b q k. search (rules, tests))))
    c.loop-field.yielded _ c.loop-field.yielded_by _ _ c.in-None.is c.next.ensures.steps in
    record {
      counted = c.loop-field.invariant.counted ∙ all.1;
      kept = λ k d l. c.loop-field.invariant.kept k d l ∙ ap (λ fs. slice_index_or fs k []) all.0;
    }
