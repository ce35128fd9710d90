use Rattle.std.proofs.Common.{arith, ◌+◌, ◌≤◌, count_ones, get_or, ap, sym, ◌∙◌}
use Rattle.std.proofs.lemmas.List.Sums.{sum_by_more}
use Rattle.std.proofs.lemmas.Nat.{ones-le}
use Rattle.packed.proofs.often.doors_in.Goals as goal

pub loop-set-preserved : goal.loop-set-preserved
loop-set-preserved c =
    let sets = c.args.sets.now in
    let k = c.loop-set.set-index in
    let few : count_ones (get_or sets k 0) ≤ 32 = ones-le 32 (get_or sets k 0) (c.type_inv.sets k).fits in (
      ap (λ n. n + count_ones (get_or sets k 0)) c.loop-set.invariant.0 ∙ sym (sum_by_more count_ones sets k 0 c.loop-set-test.true),
      omega (arith, c.loop-set.invariant.1, few),
    )
