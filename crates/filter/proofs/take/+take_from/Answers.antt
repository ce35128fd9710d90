use Rattle.std.proofs.Common.{◌-◌, length, sym, ap, arith, take-append-drop}
use Rattle.std.proofs.lemmas.List.{length-take}
use Rattle.labels.proofs.Rests.{one_more, rest-fits}
use Rattle.labels.proofs.Rooms.{few-records}
use Rattle.tidying.proofs.Targets.{layer-less}
use Rattle.filter.specs.Kept.{HasLabel, kept_from}
use Rattle.filter.proofs.Layering.{kept-step, fits_here, fits_later}
use Rattle.filter.proofs.take.+take_from.Goals as goal

pub thin_nodes-here-requires-clause-fits : goal.thin_nodes-here-requires-clause-fits
thin_nodes-here-requires-clause-fits g t c =
    fits_here (HasLabel (g.F.Test.fits c.args.by.now.test.now)) c.args.by.now.width c.args.left _ c.args.nodes.now _ c.if-left-eq0.false c.split_at_mut-us.ensures.front c.requires.fits

pub take_from-later-requires : goal.take_from-later-requires
take_from-later-requires g t c κs within =
    let ne = c.if-left-eq0.false in
    let rest = rest-fits c.args.left c.args.by.now.width (length c.args.nodes.now) ne c.requires.width_in_bounds in
    let later = fits_later (HasLabel (g.F.Test.fits c.args.by.now.test.now)) c.args.by.now.width c.args.left c.args.nodes.now _ ne c.split_at_mut-us.ensures.back c.requires.fits in
    (omega arith, (within.0, (within.1.0, (within.1.1, (omega (arith, c.requires.layer_bound), (omega (arith, rest, c.split_at_mut-us.ensures.back_len), (c.requires.width_bound, later)))))))

pub returns-clause-left : goal.returns-clause-left
returns-clause-left g t c =
    let by = c.args.by.now in
    let parts = c.split_at_mut-us.ensures in
    let nodes = c.count_nodes-many.ensures in
    kept-step (g.F.Test.goes by.test.now by.round.now) by.width c.args.layer c.args.left c.args.nodes.now _ _ c.if-left-eq0.false parts.front parts.back _ _ _ nodes.many nodes.first c.thin_nodes-here.ensures.left c.take_from-later.ensures.left

pub overflow_add-result : goal.overflow_add-result
overflow_add-result g t c =
    let short = length-take c.count_nodes-many.result c.split_at_mut-us.result.0.now in
    omega (arith, short, few-records (c.args.left - 1) c.args.by.now.width (omega (arith, c.requires.layer_bound)) c.requires.width_bound, c.thin_nodes-here.ensures.few, c.split_at_mut-us.ensures.front_len, c.take_from-later.ensures.few)

pub returns-clause-gone : goal.returns-clause-gone
returns-clause-gone g t c =
    let parts = c.split_at_mut-us.ensures in
    layer-less c.args.by.now.width c.count_nodes-many.result _ _ c.args.nodes.now c.split_at_mut-us.result.0.now c.split_at_mut-us.result.1.now c.thin_nodes-here.new.us c.take_from-later.new.nodes parts.front parts.back c.thin_nodes-here.ensures.gone c.take_from-later.ensures.gone

pub returns-clause-none : goal.returns-clause-none
returns-clause-none g t c = λ none.
    let parts = c.split_at_mut-us.ensures in
    let k = c.count_nodes-many.result in
    let row = c.split_at_mut-us.result.0.now in
    rw (c.thin_nodes-here.ensures.none (omega (arith, none)), c.take_from-later.ensures.none (omega (arith, none)), take-append-drop k row, parts.front, parts.back) (take-append-drop c.args.by.now.width c.args.nodes.now)

pub returns-then-left-eq0-clause-left : goal.returns-then-left-eq0-clause-left
unfolding kept_from
returns-then-left-eq0-clause-left g t c =
    let by = c.args.by.now in
    ap (λ k. kept_from (g.F.Test.goes by.test.now by.round.now) by.width c.args.layer k c.args.nodes.now) (sym c.if-left-eq0.true)

pub split_at_mut-us-requires : goal.split_at_mut-us-requires
split_at_mut-us-requires g t c = omega (arith, one_more c.args.left c.args.by.now.width c.if-left-eq0.false)

pub returns-clause-few : goal.returns-clause-few
returns-clause-few g t c =
    let short = length-take c.count_nodes-many.result c.split_at_mut-us.result.0.now in
    let wide = one_more c.args.left c.args.by.now.width c.if-left-eq0.false in
    omega (arith, short, wide, c.thin_nodes-here.ensures.few, c.split_at_mut-us.ensures.front_len, c.take_from-later.ensures.few)
