use Rattle.std.proofs.Common.{rules}
use Rattle.cli.proofs.output.ExitCodeFromStatus.from.Goals as goal

pub returns : goal.returns
returns c = search rules
