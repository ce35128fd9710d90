use Rattle.std.proofs.Common.{arith}
use Rattle.std.proofs.lemmas.Grind.{common_steps}
use Rattle.labels.proofs.Rests.{one_more, front_long}
use Rattle.labels.proofs.Steps.{after_more}
use Rattle.labels.proofs.down.+label_after.Goals as goal

pub slice_bounds-relabel_layer-end : goal.slice_bounds-relabel_layer-end
slice_bounds-relabel_layer-end g t c = omega (arith, one_more c.args.later c.args.by.now.width c.if-later-eq0.false)

pub slice_bounds-relabel_layer-end-else-later-eq0 : goal.slice_bounds-relabel_layer-end-else-later-eq0
slice_bounds-relabel_layer-end-else-later-eq0 g t c = front_long c.args.by.now.width c.split_at_mut-us.result.1.now (omega (arith, one_more c.args.later c.args.by.now.width c.if-later-eq0.false))

pub label_after-requires : goal.label_after-requires
label_after-requires g t c κs within = grind (arith, one_more c.args.later c.args.by.now.width c.if-later-eq0.false)

pub returns-else-later-eq0 : goal.returns-else-later-eq0
returns-else-later-eq0 g t c = grind (arith, common_steps, after_more)
