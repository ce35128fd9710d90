use Rattle.std.proofs.Common.{◌≡◌, ◌+◌, ◌-◌, ◌*◌, take, drop, sym, ap, ◌∙◌, arith}
use Rattle.seek.proofs.Along.{inner-layer, end-layer}
use Rattle.seek.proofs.layer.layer.Goals as goal

pub returns-then-i-n : goal.returns-then-i-n
returns-then-i-n g c =
    c.in_use.ensures
    ∙ inner-layer c.args.n c.args.width c.args.i c.args.nodes.now c.places_of.result.now (sym c.fits.ensures.value ∙ c.if-not-fits.false) (omega arith) c.places_of.ensures.places

pub returns-then-i-n-2 : goal.returns-then-i-n-2
returns-then-i-n-2 g c =
    let at = c.args.n * c.args.width in
    let one : at + 1 - at ≡ 1 = omega arith in
    c.in_use-then-i-n-2.ensures
    ∙ end-layer c.args.n c.args.width c.args.i c.args.nodes.now _ (sym c.fits.ensures.value ∙ c.if-not-fits.false) (omega arith) (ap (λ k. take k (drop at c.args.nodes.now)) one)
