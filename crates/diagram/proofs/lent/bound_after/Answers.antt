use Rattle.std.proofs.Common.{rules}
use Rattle.diagram.proofs.lent.bound_after.Goals as goal

pub returns-clause-worked : goal.returns-clause-worked
returns-clause-worked g c = search rules
