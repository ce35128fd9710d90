use Rattle.std.proofs.Common.{rules}
use Rattle.packed.proofs.refusal.code_of.Goals as goal

pub returns-in-Ok : goal.returns-in-Ok
returns-in-Ok c = search rules
