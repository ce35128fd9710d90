-- What is left to refine from layer i on comes to what is asked of all layers.
use Rattle.std.proofs.Common.{◌<◌, ◌≤◌, refl, arith}
use Rattle.refine.proofs.Turns.{layers_more, layers_none}
use Rattle.refine.proofs.refine.refine_layers.Goals as goal

pub returns-then-refine_layer-clause-within : goal.returns-then-refine_layer-clause-within
returns-then-refine_layer-clause-within g c = (omega arith, omega arith)

pub returns-then-refine_layer-clause-answer : goal.returns-then-refine_layer-clause-answer
returns-then-refine_layer-clause-answer g c =
    let below : c.loop-i.i < c.args.by.now.round.now.n = omega arith in
    rw (← c.loop-i.invariant.1, layers_more, ← c.refine_layer.ensures.full, c.if-refine_layer.true) refl

pub returns-then-refine_layer-clause-records : goal.returns-then-refine_layer-clause-records
returns-then-refine_layer-clause-records g c =
    let below : c.loop-i.i < c.args.by.now.round.now.n = omega arith in
    rw (← c.loop-i.invariant.1, layers_more, ← c.refine_layer.ensures.full, c.if-refine_layer.true) c.refine_layer.ensures.records

pub loop-i-preserved : goal.loop-i-preserved
loop-i-preserved g c =
    let below : c.loop-i.i < c.args.by.now.round.now.n = omega arith in
    (rw c.refine_layer.auto.nodes c.loop-i.invariant.0, rw (layers_more _ _ c.loop-i.i c.loop-i.nodes below, ← c.refine_layer.ensures.full, c.if-refine_layer.false, ← c.refine_layer.ensures.records) at c.loop-i.invariant.1)

pub returns-clause-within : goal.returns-clause-within
returns-clause-within g c = tt

pub returns-clause-answer : goal.returns-clause-answer
returns-clause-answer g c =
    let past : c.args.by.now.round.now.n ≤ c.loop-i.i = omega arith in
    rw (← c.loop-i.invariant.1, layers_none) refl

pub returns-clause-records : goal.returns-clause-records
returns-clause-records g c =
    let past : c.args.by.now.round.now.n ≤ c.loop-i.i = omega arith in
    rw (← c.loop-i.invariant.1, layers_none) refl
