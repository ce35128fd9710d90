use Rattle.std.proofs.Common.{rules}
use Rattle.diagram.proofs.lent.opened_or_left.Goals as goal

pub returns-in-Err-clause-answer : goal.returns-in-Err-clause-answer
returns-in-Err-clause-answer g c = search rules

pub returns-in-Err-clause-opened : goal.returns-in-Err-clause-opened
returns-in-Err-clause-opened g c = search rules
