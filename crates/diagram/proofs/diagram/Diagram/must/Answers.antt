use Rattle.std.proofs.Common.{rules}
use Rattle.diagram.proofs.diagram.Diagram.must.Goals as goal

pub returns-clause-answer : goal.returns-clause-answer
returns-clause-answer g c = search rules

pub returns-clause-paths : goal.returns-clause-paths
returns-clause-paths g c = search rules
