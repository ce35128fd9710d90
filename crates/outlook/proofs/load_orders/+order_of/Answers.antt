use Rattle.std.proofs.Common.{arith}
use Rattle.doors.proofs.Sets.{true-has}
use Rattle.outlook.proofs.KeptSets.{last-has, last-door, front-keeps, no-last, other-front}
use Rattle.outlook.proofs.load_orders.+order_of.Goals as goal

pub without-requires-clause-among : goal.without-requires-clause-among
without-requires-clause-among t c =
    let a = c.args in let b = c.in-Some.ensures in
    true-has a.set c.in-Some.j (last-has a.round.now a.ahead.now a.set b.0 c.in-Some.j b.1)

pub without-requires-clause-small : goal.without-requires-clause-small
without-requires-clause-small t c =
    let a = c.args in let b = c.in-Some.ensures in
    omega (arith, (last-door a.round.now a.ahead.now a.set b.0 c.in-Some.j b.1).high, a.round.now.most)

pub returns-in-None : goal.returns-in-None
returns-in-None t c w k =
    let empty = no-last c.args.round.now c.args.ahead.now c.args.set c.in-None.ensures w k in
    rw c.new.ensures.items (rw empty at k)

pub returns-in_ok-push-in-Some : goal.returns-in_ok-push-in-Some
returns-in_ok-push-in-Some t c w k =
    let r = c.args.round.now in let ahead = c.args.ahead.now in let set = c.args.set in
    let rest = c.without.result in let e = c.without.ensures.sum in
    let j = c.in-Some.j in let b = c.in-Some.ensures in
    let front = c.in_ok-order-in-Some.ensures b.0 (front-keeps r ahead set b.0 j rest e b.1) in
    rw c.in_ok-push-in-Some.ensures.items (other-front r ahead set rest b.0 c.in_ok-order-in-Some.order.items j e b.1 front)
