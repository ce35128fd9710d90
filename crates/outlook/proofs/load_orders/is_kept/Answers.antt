use Rattle.std.proofs.Common.{[], eq-eqb}
use Rattle.outlook.proofs.KeptSets.{keeps-none, kept-exactly}
use Rattle.outlook.proofs.load_orders.is_kept.Goals as goal

pub returns-then-set-eq0 : goal.returns-then-set-eq0
returns-then-set-eq0 c =
    let a = c.args in
    (λ _. ([], rw c.if-set-eq0.true (keeps-none a.round.now a.ahead.now)), λ _. eq-eqb a.set 0 c.if-set-eq0.true)

pub returns-else-set-eq0 : goal.returns-else-set-eq0
returns-else-set-eq0 c =
    rw c.is_some.ensures (kept-exactly c.args.round.now c.args.ahead.now c.args.set c.last_door.result c.if-set-eq0.false c.last_door.ensures)
