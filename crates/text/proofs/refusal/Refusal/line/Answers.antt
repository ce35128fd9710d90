use Rattle.std.proofs.Common.{rules}
use Rattle.text.proofs.refusal.Refusal.line.Goals as goal

pub returns-in-NotDue-3 : goal.returns-in-NotDue-3
returns-in-NotDue-3 c = search rules
