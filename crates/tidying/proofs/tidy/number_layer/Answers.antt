use Rattle.std.proofs.Common.{arith}
use Rattle.tidying.proofs.Numbers.{numbered_yes, numbered_no}
use Rattle.tidying.proofs.tidy.number_layer.Goals as goal

pub loop-a-preserved : goal.loop-a-preserved
loop-a-preserved g c = grind (arith, numbered_yes, numbered_no)
