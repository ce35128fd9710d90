use Rattle.std.proofs.Common.{get_or, ap, arith}
use Rattle.std.proofs.lemmas.List.FromFn.{fill_by_all}
use Rattle.layers.specs.Targets.{targets, with_targets}
use Rattle.tidying.specs.Counted.{arcs_of}
use Rattle.tidying.proofs.Counts.{renewed_fewer}
use Rattle.tidying.proofs.tidy.renew.Goals as goal

pub returns-clause-targets : goal.returns-clause-targets
unfolding targets
returns-clause-targets g c =
    let x = c.args.x.now in
    let long = c.loop-t-test.array_long in
    ap (with_targets x) (fill_by_all (λ k. get_or c.args.new.now (get_or x.arcs.to k 0) 0) c.loop-t.t-items 16 0 (omega (arith, long)) (λ k lt. c.loop-t.invariant.done k (omega (arith, lt, c.loop-t-test.false, long))))

pub overflow_sub-result : goal.overflow_sub-result
overflow_sub-result g c = omega (arith, c.count_of-before.ensures.many, c.count_of.ensures.many, ap arcs_of (returns-clause-targets g c), renewed_fewer c.args.new.now c.args.x.now c.requires)

pub returns-clause-lost : goal.returns-clause-lost
returns-clause-lost g c = let few = overflow_sub-result g c in omega (arith, few, c.count_of-before.ensures.many, c.count_of.ensures.many)
