use Rattle.std.proofs.Common.{◌∙◌, sym}
use Rattle.order_report.proofs.WordOrders.{no_text}
use Rattle.order_report.proofs.named.door_named.Goals as goal

pub returns-else-has_door : goal.returns-else-has_door
returns-else-has_door c = no_text c.args.round.now.n c.args.word.now c.in_ok-door.door c.args.round.now.most c.in_ok-door.ensures (sym c.has_door.ensures ∙ c.if-has_door.false)
