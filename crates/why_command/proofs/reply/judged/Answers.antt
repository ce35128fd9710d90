use Rattle.std.proofs.Common.{rules}
use Rattle.why_command.proofs.reply.judged.Goals as goal

pub returns-in-Ok : goal.returns-in-Ok
returns-in-Ok c = search rules
