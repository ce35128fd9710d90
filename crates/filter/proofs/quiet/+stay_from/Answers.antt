use Rattle.std.proofs.Common.{length, sym, ap, arith}
use Rattle.labels.proofs.Rests.{one_more, rest-fits}
use Rattle.filter.specs.Kept.{HasLabel, all_stay}
use Rattle.filter.proofs.Layering.{stay-step, fits_here, fits_later}
use Rattle.filter.proofs.quiet.+stay_from.Goals as goal

pub nodes_stay-requires-clause-fits : goal.nodes_stay-requires-clause-fits
nodes_stay-requires-clause-fits g t c =
    fits_here (HasLabel (g.F.Test.fits c.args.by.now.test.now)) c.args.by.now.width c.args.left _ c.args.nodes.now _ c.if-left-eq0.false c.split_at.ensures.front c.requires.fits

pub stay_from-requires : goal.stay_from-requires
stay_from-requires g t c κs within =
    let ne = c.if-left-eq0.false in
    let rest = rest-fits c.args.left c.args.by.now.width (length c.args.nodes.now) ne c.requires.width_in_bounds in
    let later = fits_later (HasLabel (g.F.Test.fits c.args.by.now.test.now)) c.args.by.now.width c.args.left c.args.nodes.now _ ne c.split_at.ensures.back c.requires.fits in
    (omega arith, (within.0, (within.1.0, (within.1.1, (omega (arith, c.requires.layer_bound), (omega (arith, rest, c.split_at.ensures.back_len), later))))))

pub returns-then-nodes_stay : goal.returns-then-nodes_stay
returns-then-nodes_stay g t c =
    let by = c.args.by.now in
    rw (← stay-step (g.F.Test.goes by.test.now by.round.now) by.width c.args.layer c.args.left c.args.nodes.now _ _ c.if-left-eq0.false c.split_at.ensures.front c.split_at.ensures.back _ c.count_nodes-many.ensures.first, ← c.if-nodes_stay.ensures)
    c.stay_from.ensures

pub returns-else-nodes_stay : goal.returns-else-nodes_stay
returns-else-nodes_stay g t c =
    let by = c.args.by.now in
    rw (← stay-step (g.F.Test.goes by.test.now by.round.now) by.width c.args.layer c.args.left c.args.nodes.now _ _ c.if-left-eq0.false c.split_at.ensures.front c.split_at.ensures.back _ c.count_nodes-many.ensures.first, ← c.if-nodes_stay.ensures)
    c.if-nodes_stay.false

pub returns-then-left-eq0 : goal.returns-then-left-eq0
unfolding all_stay
returns-then-left-eq0 g t c =
    let by = c.args.by.now in
    ap (λ k. all_stay (g.F.Test.goes by.test.now by.round.now) by.width c.args.layer k c.args.nodes.now) (sym c.if-left-eq0.true)

pub split_at-requires : goal.split_at-requires
split_at-requires g t c = omega (arith, one_more c.args.left c.args.by.now.width c.if-left-eq0.false)
