use Rattle.std.proofs.Common.{rules}
use Rattle.cli.proofs.input.round_of.Goals as goal

pub returns : goal.returns
returns c = search rules
