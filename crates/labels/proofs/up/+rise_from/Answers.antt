use Rattle.std.proofs.Common.{arith}
use Rattle.std.proofs.lemmas.Grind.{common_steps}
use Rattle.labels.proofs.Rests.{one_more, front_long}
use Rattle.labels.proofs.Steps.{risen_last, risen_more}
use Rattle.labels.proofs.up.+rise_from.Goals as goal

pub rise_from-requires : goal.rise_from-requires
rise_from-requires g t c κs within = grind (arith, one_more c.args.later c.args.width c.if-later-eq0.false)

pub slice_bounds-rise_layer-end-else-later-eq0 : goal.slice_bounds-rise_layer-end-else-later-eq0
slice_bounds-rise_layer-end-else-later-eq0 g t c = omega (arith, one_more c.args.later c.args.width c.if-later-eq0.false)

pub slice_bounds-rise_layer-end-else-later-eq0-2 : goal.slice_bounds-rise_layer-end-else-later-eq0-2
slice_bounds-rise_layer-end-else-later-eq0-2 g t c = front_long c.args.width c.rise_from.new.nodes (omega (arith, one_more c.args.later c.args.width c.if-later-eq0.false))

pub returns-then-later-eq0 : goal.returns-then-later-eq0
returns-then-later-eq0 g t c = grind (arith, common_steps, risen_last)

pub returns-else-later-eq0 : goal.returns-else-later-eq0
returns-else-later-eq0 g t c = grind (arith, common_steps, front_long, risen_more)
