use Rattle.std.proofs.Common.{rules}
use Rattle.layers.proofs.refusal.Refusal.number.Goals as goal

pub returns-in-SameDoor : goal.returns-in-SameDoor
returns-in-SameDoor c = search rules
