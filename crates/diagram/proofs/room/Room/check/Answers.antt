use Rattle.std.proofs.Common.{rules}
use Rattle.diagram.proofs.room.Room.check.Goals as goal

pub returns-then-width-lt1-clause-refused : goal.returns-then-width-lt1-clause-refused
returns-then-width-lt1-clause-refused c = search rules
