use Rattle.std.proofs.Common.{rules}
use Rattle.doors.proofs.with.Goals as goal

pub returns-then-j-lt32-clause-added : goal.returns-then-j-lt32-clause-added
returns-then-j-lt32-clause-added c = search rules
