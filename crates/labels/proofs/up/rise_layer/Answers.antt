use Rattle.std.proofs.Common.{sym, ◌∙◌, arith}
use Rattle.labels.specs.Passes.{risen}
use Rattle.labels.proofs.Steps.{renewed_more, renewed_stop, renewed_all}
use Rattle.labels.proofs.up.rise_layer.Goals as goal

pub loop-u-preserved : goal.loop-u-preserved
unfolding risen
loop-u-preserved g c =
    let us = c.loop-u.us in
    rw c.climb_all-up.ensures (renewed_more (risen c.args.round.now c.args.vs.now) us c.loop-u.u-index c.u-item.result (omega arith) c.if-u-eq0.false ∙ c.loop-u.invariant)

pub returns-after-loop-u : goal.returns-after-loop-u
returns-after-loop-u g c = sym (renewed_all (risen c.args.round.now c.args.vs.now) c.loop-u.us c.loop-u.u-index (omega arith)) ∙ c.loop-u.invariant

pub returns-then-u-eq0 : goal.returns-then-u-eq0
returns-then-u-eq0 g c = renewed_stop (risen c.args.round.now c.args.vs.now) c.loop-u.us c.loop-u.u-index c.u-item.result (omega arith) c.if-u-eq0.true ∙ c.loop-u.invariant
