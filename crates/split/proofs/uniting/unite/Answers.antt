use Rattle.std.proofs.Common.{arith}
use Rattle.split.specs.Joined.{joined_second}
use Rattle.split.proofs.uniting.unite.Goals as goal

pub returns : goal.returns
unfolding joined_second
returns g c = grind arith
