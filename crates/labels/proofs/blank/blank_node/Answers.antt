use Rattle.std.proofs.Common.{rules}
use Rattle.labels.proofs.blank.blank_node.Goals as goal

pub returns : goal.returns
returns g c = search rules
