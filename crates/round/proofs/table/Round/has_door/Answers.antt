use Rattle.std.proofs.Common.{rules}
use Rattle.round.proofs.table.Round.has_door.Goals as goal

pub returns : goal.returns
returns c = search rules
