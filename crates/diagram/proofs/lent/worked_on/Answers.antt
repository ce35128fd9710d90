use Rattle.std.proofs.Common.{rules}
use Rattle.diagram.proofs.lent.worked_on.Goals as goal

pub returns-clause-worked : goal.returns-clause-worked
returns-clause-worked g c = search rules
