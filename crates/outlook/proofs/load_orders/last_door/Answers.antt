use Rattle.std.proofs.Common.{◌∙◌, sym, below_more, arith}
use Rattle.std.proofs.lemmas.Bool.{false≢true}
use Rattle.doors.specs.Orders.{IsDoor}
use Rattle.outlook.specs.LoadOrders.{CanBeLast}
use Rattle.outlook.proofs.load_orders.last_door.Goals as goal

pub loop-j-preserved : goal.loop-j-preserved
loop-j-preserved c = below_more _ _ c.loop-j.invariant (λ d b. false≢true (sym c.if-can_be_last.false ∙ c.can_be_last.ensures.1 b))

pub returns-else-can_be_last : goal.returns-else-can_be_last
returns-else-can_be_last c i d =
    below_more (λ i. IsDoor c.args.round.now.n i → ¬ CanBeLast c.args.round.now c.args.ahead.now c.args.set i) _ c.loop-j.invariant (λ d b. false≢true (sym c.if-can_be_last.false ∙ c.can_be_last.ensures.1 b))
    i (omega arith) d
