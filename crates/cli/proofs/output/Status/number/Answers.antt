use Rattle.std.proofs.Common.{rules}
use Rattle.cli.proofs.output.Status.number.Goals as goal

pub returns-in-Refused : goal.returns-in-Refused
returns-in-Refused c = search rules
