use Rattle.std.proofs.Common.{arith}
use Rattle.std.proofs.lemmas.Grind.{common_steps}
use Rattle.std.proofs.lemmas.Bool.Decides.{nat_tests}
use Rattle.std.proofs.lemmas.Nat.Bits.{bit_at_above}
use Rattle.doors.proofs.contains.Goals as goal

-- a mask of 32 bits has none above
pub returns-else-j-lt32 : goal.returns-else-j-lt32
returns-else-j-lt32 c = grind (arith, nat_tests, bit_at_above c.args.set 32 c.args.j)

pub returns-then-j-lt32 : goal.returns-then-j-lt32
returns-then-j-lt32 c = grind (arith, common_steps)
