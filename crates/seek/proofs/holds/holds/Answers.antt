use Rattle.std.proofs.Common.{sym, ◌∙◌, arith}
use Rattle.layers.specs.Calls.{arcs, holds}
use Rattle.layers.proofs.Shaped.{drawn-deep}
use Rattle.seek.proofs.Along.{no-path, ends-here, goes-on, all-read}
use Rattle.seek.proofs.holds.holds.Goals as goal

pub returns-then-doors-n : goal.returns-then-doors-n
unfolding holds
returns-then-doors-n g c =
    rw (sym c.fits.ensures.value ∙ c.if-not-fits.false) (sym (no-path (arcs c.args.n c.args.width c.args.nodes.now) 0 c.args.doors.now (λ e. absurd (omega (arith, e, drawn-deep c.args.n c.args.width c.args.n c.args.nodes.now)))))

pub returns-then-t-eq0 : goal.returns-then-t-eq0
unfolding holds
returns-then-t-eq0 g c =
    let fit = sym c.fits.ensures.value ∙ c.if-not-fits.false in
    rw fit (ends-here c.args.n c.args.width c.args.nodes.now c.loop-i.i c.loop-i.place c.target_by-t.result 0 c.layer.result.now c.args.doors.now
    fit (omega arith) (omega arith) c.layer.ensures c.target_by-t.ensures c.if-t-eq0.true ∙ c.loop-i.invariant)

pub loop-i-preserved : goal.loop-i-preserved
loop-i-preserved g c =
    let fit = sym c.fits.ensures.value ∙ c.if-not-fits.false in
    goes-on c.args.n c.args.width c.args.nodes.now c.loop-i.i c.loop-i.place c.target_by-t.result 0 c.layer.result.now c.args.doors.now
    fit (omega arith) (omega arith) c.layer.ensures c.target_by-t.ensures c.if-t-eq0.false
    ∙ c.loop-i.invariant

pub returns : goal.returns
unfolding holds
returns g c =
    rw (sym c.fits.ensures.value ∙ c.if-not-fits.false)
    (all-read c.args.n c.args.width c.args.nodes.now c.loop-i.i c.loop-i.place c.args.doors.now (omega arith) (omega arith) ∙ c.loop-i.invariant)
