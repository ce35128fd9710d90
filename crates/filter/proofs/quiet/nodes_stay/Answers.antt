use Rattle.std.proofs.Common.{◌≡◌, true, false, refl, ap, arith}
use Rattle.std.proofs.lemmas.Grind.{common_steps}
use Rattle.std.proofs.lemmas.Bool.{eq-eqb, ne_eqb}
use Rattle.std.proofs.lemmas.List.{drop_more}
use Rattle.tidying.specs.Counted.{arcs_of}
use Rattle.filter.specs.Kept.{stays}
use Rattle.filter.proofs.quiet.nodes_stay.Goals as goal

pub returns-then-thin_node-ne0 : goal.returns-then-thin_node-ne0
unfolding stays
returns-then-thin_node-ne0 g c =
    let at = c.args.at.now in
    let u = c.index-us-a.result in
    let p = stays (g.F.Test.goes at.test.now at.round.now) at.layer at.left at.next.now in
    let off : p u ≡ false = ne_eqb _ _ (λ e. c.if-thin_node-ne0.true (omega (arith, e, ap arcs_of c.thin_node.ensures.left, c.thin_node.ensures.gone))) in
    rw (← c.loop-a.invariant, drop_more c.args.us.now c.loop-a.a u c.loop-a-test.true, ← c.index-us-a.is, off) refl

pub loop-a-preserved : goal.loop-a-preserved
unfolding stays
loop-a-preserved g c =
    let at = c.args.at.now in
    let u = c.index-us-a.result in
    let p = stays (g.F.Test.goes at.test.now at.round.now) at.layer at.left at.next.now in
    let on : p u ≡ true = eq-eqb _ _ (omega (arith, c.if-thin_node-ne0.false, ap arcs_of c.thin_node.ensures.left, c.thin_node.ensures.gone)) in
    rw (← c.loop-a.invariant, drop_more c.args.us.now c.loop-a.a u c.loop-a-test.true, ← c.index-us-a.is, on) refl

pub returns : goal.returns
returns g c = grind (arith, common_steps)
