use Rattle.std.proofs.Common.{append_assoc}
use Rattle.order_report.proofs.shown.OrderFaultDisplay.fmt.Goals as goal

pub returns-in-NoDoor-clause-writes : goal.returns-in-NoDoor-clause-writes
returns-in-NoDoor-clause-writes g c = λ p ok. simp (c.in-NoDoor.is, append_assoc) (c.write.ensures.writes p ok)
