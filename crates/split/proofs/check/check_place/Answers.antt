use Rattle.std.proofs.Common.{arith}
use Rattle.std.proofs.lemmas.Bool.Decides.{nat_tests}
use Rattle.split.proofs.Checks.{place_clear}
use Rattle.split.proofs.check.check_place.Goals as goal

pub returns : goal.returns
returns c = place_clear c.args.n c.args.width c.args.len c.args.layer c.requires (grind (arith, nat_tests))
