use Rattle.std.proofs.Common.{take_all, ap, ◌∙◌, arith}
use Rattle.tidying.specs.Counted.{arcs_within}
use Rattle.tidying.proofs.count.count_all.Goals as goal

pub returns : goal.returns
returns g c = c.loop-x.invariant.counted ∙ ap arcs_within (take_all c.loop-x.x-index c.args.nodes.now (omega arith))
