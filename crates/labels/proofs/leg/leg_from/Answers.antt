use Rattle.std.proofs.Common.{arith}
use Rattle.std.proofs.lemmas.Grind.{common_steps}
use Rattle.labels.proofs.Legs.{nearest_next}
use Rattle.labels.proofs.leg.leg_from.Goals as goal

pub loop-i-preserved : goal.loop-i-preserved
loop-i-preserved c = grind (arith, common_steps, nearest_next c.args.round.now c.args.lasts c.args.j c.loop-i.from c.in-Some.i c.in-Some.ensures)
