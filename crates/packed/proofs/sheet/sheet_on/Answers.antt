use Rattle.std.proofs.Common.{arith}
use Rattle.std.proofs.lemmas.Grind.{common_steps}
use Rattle.packed.proofs.Long.{calls_sheet, long_of}
use Rattle.packed.proofs.sheet.sheet_on.Goals as goal

pub returns-then-out-long-clause-answer : goal.returns-then-out-long-clause-answer
returns-then-out-long-clause-answer c = grind (arith, common_steps, calls_sheet)

pub returns-then-out-long-clause-out : goal.returns-then-out-long-clause-out
returns-then-out-long-clause-out c = grind (arith, common_steps, calls_sheet)

pub returns-clause-answer : goal.returns-clause-answer
returns-clause-answer c = grind (arith, common_steps, calls_sheet, long_of)

pub returns-clause-out : goal.returns-clause-out
returns-clause-out c = grind (arith, common_steps, calls_sheet)
