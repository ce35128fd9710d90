use Rattle.std.proofs.Common.{arith}
use Rattle.std.proofs.lemmas.List.Edits.{map_over_more}
use Rattle.split.proofs.moving.move_layer.Goals as goal

pub loop-x-preserved : goal.loop-x-preserved
loop-x-preserved g c = grind (arith, map_over_more)
