use Rattle.std.proofs.Common.{take}
use Rattle.orders.proofs.Parts.{Seen}
use Rattle.orders.proofs.order.making.is_part_order.Given as goal

abbrev pub invariant-loop-j : goal.invariant-loop-j
invariant-loop-j l = Seen l.round.n l.seen (take l.j-index l.list)
