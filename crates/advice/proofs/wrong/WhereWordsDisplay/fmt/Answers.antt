use Rattle.std.proofs.Common.{arith}
use Rattle.std.proofs.lemmas.Grind.{common_steps}
use Rattle.advice.proofs.wrong.WhereWordsDisplay.fmt.Goals as goal

pub returns-in-NotNumber-clause-writes : goal.returns-in-NotNumber-clause-writes
returns-in-NotNumber-clause-writes g c = grind (arith, common_steps)
