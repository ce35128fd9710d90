use Rattle.std.proofs.Common.{slice_index, sym, arith, take_all}
use Rattle.std.proofs.lemmas.Bool.Decides.{nat_tests}
use Rattle.doors.specs.Orders.{IsDoor}
use Rattle.doors.specs.Sets.{Has}
use Rattle.doors.proofs.Orders.{part-is}
use Rattle.orders.proofs.Parts.{seen_more, broken}
use Rattle.orders.proofs.order.making.is_part_order.Goals as goal

pub returns-then-not-has_door : goal.returns-then-not-has_door
returns-then-not-has_door c =
    let n = c.args.round.now.n in
    let j = slice_index c.args.list.now c.loop-j.j-index in
    let old : IsDoor n j → Has c.loop-j.seen j = grind (arith, nat_tests, c.then-not-has_door.branch) in
    sym (broken n c.loop-j.seen c.args.list.now c.loop-j.j-index c.loop-j-test.true c.loop-j.invariant old)

pub loop-j-preserved : goal.loop-j-preserved
loop-j-preserved c =
    let n = c.args.round.now.n in
    let j = slice_index c.args.list.now c.loop-j.j-index in
    let most = c.args.round.now.most in
    let door : IsDoor n j = grind (arith, nat_tests) in
    let new : ¬ Has c.loop-j.seen j = grind (arith, nat_tests) in
    rw (c.with-seen.ensures.added (omega arith)) (seen_more n c.loop-j.seen c.args.list.now c.loop-j.j-index c.loop-j-test.true c.loop-j.invariant door new)

pub returns : goal.returns
returns c = rw (take_all c.loop-j.j-index c.args.list.now c.loop-j-test.false) at (sym (part-is c.args.round.now.n _ c.loop-j.invariant.part))
