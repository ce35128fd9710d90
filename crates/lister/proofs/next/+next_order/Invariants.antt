use Rattle.std.proofs.Common.{length}
use Rattle.lister.proofs.next.+next_order.Given as goal

abbrev pub decreases-next_order : goal.decreases-next_order
decreases-next_order l = length l.doors.now
