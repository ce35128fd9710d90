use Rattle.std.proofs.Common.{arith}
use Rattle.outlook.proofs.earliest.end_after.Goals as goal

pub overflow_cast-result : goal.overflow_cast-result
overflow_cast-result c = omega (arith, c.finish.ensures.laws.bound 0 c.args.end c.drive.result c.args.j c.requires c.drive.ensures.bound)
