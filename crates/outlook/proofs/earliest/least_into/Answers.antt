use Rattle.std.proofs.Common.{◌+◌, arith}
use Rattle.outlook.proofs.Tables.{least_more, least_all}
use Rattle.outlook.proofs.earliest.least_into.Goals as goal

pub loop-i-preserved : goal.loop-i-preserved
loop-i-preserved c = least_more _ _ _ _ _ c.loop-i.invariant _ (grind arith)

pub returns-after-ends-i : goal.returns-after-ends-i
returns-after-ends-i c = least_all _ _ _ (c.loop-i.i + 1) _ (omega arith) (least_more _ _ _ _ _ c.loop-i.invariant _ (grind arith))
