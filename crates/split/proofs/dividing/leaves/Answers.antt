use Rattle.std.proofs.Common.{arith}
use Rattle.std.proofs.lemmas.List.{get_or_default}
use Rattle.split.proofs.dividing.leaves.Goals as goal

pub returns : goal.returns
returns g c z = grind (arith, get_or_default c.args.us.now c.args.x.now.place c.index-us-x.result z c.requires.place_in_bounds)
