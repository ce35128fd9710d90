use Rattle.std.proofs.Common.{rules}
use Rattle.packed.proofs.refusal.Refusal.number.Goals as goal

pub returns-in-Calls : goal.returns-in-Calls
returns-in-Calls c = search rules
