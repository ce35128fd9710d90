use Rattle.std.proofs.Common.{arith}
use Rattle.std.proofs.lemmas.List.Edits.{map_over_more}
use Rattle.diagram.specs.Opening.{no_door, with_arcs}
use Rattle.diagram.proofs.lay.clear_arcs.Goals as goal

pub loop-u-preserved : goal.loop-u-preserved
loop-u-preserved g c = rw (← c.u-item.is) (map_over_more (with_arcs no_door) c.args.us.now c.loop-u.us c.loop-u.u-index c.u-item.result (omega arith) c.loop-u.invariant c.u-item.is)
