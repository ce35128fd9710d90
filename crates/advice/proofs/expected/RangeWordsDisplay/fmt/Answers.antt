use Rattle.std.proofs.Common.{arith}
use Rattle.std.proofs.lemmas.Grind.{common_steps}
use Rattle.advice.proofs.expected.RangeWordsDisplay.fmt.Goals as goal

pub returns-else-low-high-clause-writes : goal.returns-else-low-high-clause-writes
returns-else-low-high-clause-writes g c = grind (arith, common_steps)
