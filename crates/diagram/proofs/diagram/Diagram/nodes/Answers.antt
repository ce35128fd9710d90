use Rattle.std.proofs.Common.{refl}
use Rattle.diagram.proofs.diagram.Diagram.nodes.Goals as goal

pub returns : goal.returns
returns g c = refl
