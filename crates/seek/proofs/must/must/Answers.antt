use Rattle.std.proofs.Common.{not, ap, sym, ◌∙◌}
use Rattle.layers.specs.Calls.{must}
use Rattle.seek.specs.declared.seen.Seen.{Seen}
use Rattle.seek.proofs.must.must.Goals as goal

pub first_row-row-requires : goal.first_row-row-requires
first_row-row-requires g c =
    let fit = c.if-not-fits.false in record { n_bound = c.fits.ensures.few fit; width_bound = c.fits.ensures.narrow fit; width_in_bounds = c.fits.ensures.room fit }

pub returns : goal.returns
unfolding must
returns g c = rw (sym c.fits.ensures.value ∙ c.if-not-fits.false) (ap (λ (s : Seen). not s.both) (c.first_row-row.ensures 1))
