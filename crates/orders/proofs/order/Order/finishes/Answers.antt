use Rattle.std.proofs.Common.{◌+◌, take, arith}
use Rattle.std.proofs.lemmas.Grind.{common_steps}
use Rattle.std.proofs.lemmas.List.FromFn.{map-range_with_len_more}
use Rattle.orders.specs.Times.{finish_of}
use Rattle.orders.proofs.Times.{soon, late_each}
use Rattle.orders.proofs.order.Order.finishes.Goals as goal

pub goes-van-requires : goal.goes-van-requires
goes-van-requires c = rw c.loop-j.invariant.0 (soon c.args.self.now.round.now c.args.self.now.doors.now c.loop-j.j-index c.args.self.now.part c.loop-j-test.true)

pub loop-j-preserved : goal.loop-j-preserved
loop-j-preserved c =
    let r = c.args.self.now.round.now in
    let w = c.args.self.now.doors.now in
    grind (arith, common_steps, map-range_with_len_more (λ k. finish_of r (take (k + 1) w)) 0 c.loop-j.j-index c.loop-j.j-index)

pub returns-clause-bound : goal.returns-clause-bound
returns-clause-bound c =
    let r = c.args.self.now.round.now in
    let w = c.args.self.now.doors.now in
    λ k. grind (arith, common_steps, late_each r w k c.args.self.now.part)
