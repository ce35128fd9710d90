use Rattle.std.proofs.Common.{take, ◌∙◌, sym, refl, ap, fold, arith}
use Rattle.std.proofs.lemmas.Bool.{ne_eqb}
use Rattle.std.proofs.lemmas.List.{take_all}
use Rattle.std.proofs.lemmas.List.Sums.{fold_more}
use Rattle.layers.specs.Settings.{lent_setting}
use Rattle.labels.specs.Passes.{crossed, hit, spread}
use Rattle.labels.proofs.DoorsOut.{folded_out, listed_door}
use Rattle.labels.proofs.down.spread_node.Goals as goal

pub cross-requires-clause-k_bound : goal.cross-requires-clause-k_bound
cross-requires-clause-k_bound g c = let o = c.list_doors-many in rw c.from.ensures (listed_door o.new.doors o.result c.loop-k.k-index o.ensures.in_range c.loop-k-test.true)

pub cross-requires-clause-is_leg : goal.cross-requires-clause-is_leg
cross-requires-clause-is_leg g c = c.legs-legs.ensures _ (cross-requires-clause-k_bound g c)

pub loop-k-preserved : goal.loop-k-preserved
loop-k-preserved g c =
    let f = crossed (lent_setting c.args.by.now (g.R.Rule.sense c.args.by.now.rule.now) (g.T.Tally.sense c.args.by.now.tally.now)) c.args.u.now in
    let o = c.list_doors-many in
    rw (c.cross.ensures, c.loop-k.invariant, c.from.ensures) (sym (fold_more f c.args.vs.now (take o.result o.new.doors) c.loop-k.k-index 0 c.loop-k-test.true))

pub returns : goal.returns
unfolding spread crossed hit
returns g c =
    let f = crossed (lent_setting c.args.by.now (g.R.Rule.sense c.args.by.now.rule.now) (g.T.Tally.sense c.args.by.now.tally.now)) c.args.u.now in
    let o = c.list_doors-many in
    let to = c.args.u.now.arcs.to in
    let vs = c.args.vs.now in
    rw (ne_eqb _ 0 c.requires.in_use)
    (c.loop-k.invariant ∙ ap (fold f vs) (take_all c.loop-k.k-index (take o.result o.new.doors) (omega arith) ∙ o.ensures.listed) ∙ sym (folded_out f to (λ vs k e. rw e refl) vs))
