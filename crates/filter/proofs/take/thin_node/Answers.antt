use Rattle.std.proofs.Common.{◌∙◌, ap, arith}
use Rattle.tidying.specs.Counted.{arcs_of}
use Rattle.filter.proofs.Kept.{node-fewer, node-same}
use Rattle.filter.proofs.take.thin_node.Goals as goal

pub overflow_sub-result : goal.overflow_sub-result
overflow_sub-result g c =
    let at = c.args.at.now in
    let fewer = node-fewer (g.F.Test.goes at.test.now at.round.now) at.layer at.left at.next.now c.args.u.now in
    omega (arith, c.count_of.ensures.many, c.count_of-before.ensures.many, ap arcs_of c.targets_left-u.ensures, fewer)

pub returns-clause-gone : goal.returns-clause-gone
returns-clause-gone g c = let few = overflow_sub-result g c in omega (arith, few, c.count_of.ensures.many, c.count_of-before.ensures.many)

pub returns-clause-none : goal.returns-clause-none
returns-clause-none g c = λ none.
    let at = c.args.at.now in
    let left = c.targets_left-u.ensures in
    left ∙ node-same (g.F.Test.goes at.test.now at.round.now) at.layer at.left at.next.now c.args.u.now c.count_of-before.ensures.sixteen
    (omega (arith, overflow_sub-result g c, none, ap arcs_of left, c.count_of.ensures.many, c.count_of-before.ensures.many))
