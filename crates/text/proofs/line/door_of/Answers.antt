use Rattle.std.proofs.Common.{arith}
use Rattle.text.proofs.line.door_of.Goals as goal

pub returns-in_err-change : goal.returns-in_err-change
returns-in_err-change c = grind arith
