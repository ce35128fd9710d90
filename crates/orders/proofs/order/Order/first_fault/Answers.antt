use Rattle.std.proofs.Common.{arith}
use Rattle.std.proofs.lemmas.Grind.{common_steps}
use Rattle.orders.proofs.Times.{soon}
use Rattle.orders.proofs.order.Order.first_fault.Goals as goal

pub goes-van-requires : goal.goes-van-requires
goes-van-requires g c = rw c.loop-j.invariant.0 (soon c.args.self.now.round.now c.args.self.now.doors.now c.loop-j.j-index c.args.self.now.part c.loop-j-test.true)

pub returns-then-from-van : goal.returns-then-from-van
returns-then-from-van g c = grind (arith, common_steps)
