-- One step after at most 15 others: the clock's bound.
use Rattle.std.proofs.Common.{arith}
use Rattle.orders.proofs.van.Van.goes.Goals as goal

pub overflow_cast-result : goal.overflow_cast-result
overflow_cast-result c =
    let late = c.finish-finish.ensures.laws.bound 15 c.args.self.finish c.drive-leg.result c.args.j c.requires c.drive-leg.ensures.bound in
    let same = c.finish-finish.ensures.value in
    record { fits = omega arith }
