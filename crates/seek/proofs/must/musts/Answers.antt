use Rattle.std.proofs.Common.{◌≡◌, sym, arith, ◌∙◌}
use Rattle.std.proofs.lemmas.List.{length-set}
use Rattle.seek.specs.Musts.{behind}
use Rattle.seek.proofs.DoorsBehind.{first-behind, one_more_set, musts_are}
use Rattle.seek.proofs.must.musts.Goals as goal

pub top_row-row-requires : goal.top_row-row-requires
top_row-row-requires g c =
    let fit = c.if-not-fits.false in record { n_bound = c.fits.ensures.few fit; width_bound = c.fits.ensures.narrow fit; width_in_bounds = c.fits.ensures.room fit }

pub behind-requires : goal.behind-requires
behind-requires g c = c.fits.ensures.few c.if-not-fits.false

pub loop-i-preserved : goal.loop-i-preserved
loop-i-preserved g c =
    let f = behind c.args.n c.args.width c.args.nodes.now in
    let i = c.loop-i.i in
    let now : c.behind.result ≡ f i = c.behind.ensures ∙ first-behind c.args.n c.args.width c.args.nodes.now c.top_row-row.result c.top_row-row.ensures i in
    (length-set c.loop-i.sets i c.behind.result ∙ c.loop-i.invariant.0, one_more_set f c.loop-i.sets i c.behind.result (omega arith) now c.loop-i.invariant.1)

pub returns : goal.returns
returns g c =
    rw (sym c.fits.ensures.value ∙ c.if-not-fits.false)
    (musts_are c.args.n c.args.width c.args.nodes.now c.loop-i.sets c.loop-i.i (omega arith) c.loop-i.invariant.0 c.loop-i.invariant.1)
