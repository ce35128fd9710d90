use Rattle.std.proofs.Common.{◌++◌, drop, ap, arith}
use Rattle.std.proofs.lemmas.Grind.{common_steps}
use Rattle.labels.proofs.Rests.{one_more}
use Rattle.diagram.proofs.Arcs_laid.{arced_more}
use Rattle.diagram.proofs.lay.+lay_layers.Goals as goal

pub returns-else-count-eq0 : goal.returns-else-count-eq0
returns-else-count-eq0 g t c = grind (arith, common_steps, arced_more)

pub lay_layers-requires : goal.lay_layers-requires
lay_layers-requires g t c κs within = grind (arith, one_more c.args.count c.args.width c.if-count-eq0.false)

pub split_at_mut-us-requires : goal.split_at_mut-us-requires
split_at_mut-us-requires g t c = omega (arith, one_more c.args.count c.args.width c.if-count-eq0.false)

pub returns-then-count-eq0 : goal.returns-then-count-eq0
returns-then-count-eq0 g t c = rw c.if-count-eq0.true (ap (λ us. us ++ drop 1 c.args.nodes.now) c.lay_first.ensures)
