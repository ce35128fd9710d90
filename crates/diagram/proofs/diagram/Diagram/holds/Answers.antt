use Rattle.std.proofs.Common.{rules}
use Rattle.diagram.proofs.diagram.Diagram.holds.Goals as goal

pub returns-clause-answer : goal.returns-clause-answer
returns-clause-answer g c = search rules

pub returns-clause-path : goal.returns-clause-path
returns-clause-path g c = search rules
