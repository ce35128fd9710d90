use Rattle.std.proofs.Common.{◌≡◌, ◌+◌, true, [], ◌∷◌, drop, refl, sym, ◌∙◌, arith}
use Rattle.std.proofs.lemmas.Bool.{and_parts, eqb-false, leb-true, not-true}
use Rattle.std.proofs.lemmas.List.{drop_all, drop_more}
use Rattle.labels.specs.Passes.{is_source, sources, crossed_all}
use Rattle.labels.proofs.down.spread_layer.Goals as goal

pub spread_node-requires : goal.spread_node-requires
spread_node-requires g c =
    let e = and_parts _ _ (sym c.is_source.ensures ∙ c.if-not-is_source.false) in
    record { in_use = eqb-false _ _ (not-true _ e.0); finish_bound = leb-true _ _ e.1 }

pub loop-u-preserved : goal.loop-u-preserved
loop-u-preserved g c =
    let us = c.args.us.now in
    let i = c.loop-u.u-index in
    let x = c.u-item.result in
    let is : is_source x ≡ true = sym c.is_source.ensures ∙ c.if-not-is_source.false in
    let here : sources (drop i us) ≡ x ∷ sources (drop (i + 1) us) = rw (drop_more us i x c.loop-u-test.true, ← c.u-item.is, is) refl in
    rw c.spread_node.ensures (rw here at c.loop-u.invariant)

pub returns-after-loop-u : goal.returns-after-loop-u
unfolding crossed_all
returns-after-loop-u g c = rw (drop_all c.loop-u.u-index c.args.us.now (omega arith)) at c.loop-u.invariant

pub returns-then-not-is_source : goal.returns-then-not-is_source
unfolding crossed_all
returns-then-not-is_source g c =
    let us = c.args.us.now in
    let i = c.loop-u.u-index in
    let x = c.u-item.result in
    let none : sources (drop i us) ≡ [] = rw (drop_more us i x c.loop-u-test.true, ← c.u-item.is, sym c.is_source.ensures ∙ c.if-not-is_source.true) refl in
    rw none at c.loop-u.invariant
