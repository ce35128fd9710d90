use Rattle.std.proofs.Common.{rules}
use Rattle.diagram.proofs.diagram.Diagram.bound.Goals as goal

pub returns : goal.returns
returns g c = search rules
