use Rattle.std.proofs.Common.{rules}
use Rattle.diagram.proofs.diagram.Diagram.reading_form.Goals as goal

pub invariant_of-result : goal.invariant_of-result
invariant_of-result g c = search rules

pub returns-clause-records : goal.returns-clause-records
returns-clause-records g c = search rules
