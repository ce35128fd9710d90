use Rattle.std.proofs.Common.{rules}
use Rattle.round.proofs.table.Round.drive.Goals as goal

pub returns-clause-value : goal.returns-clause-value
returns-clause-value c = search rules
