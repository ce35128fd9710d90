use Rattle.std.proofs.Common.{rules}
use Rattle.text.proofs.refusal.Refusal.number.Goals as goal

pub returns-in-OutOfTurn : goal.returns-in-OutOfTurn
returns-in-OutOfTurn c = search rules
