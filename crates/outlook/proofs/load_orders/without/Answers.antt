use Rattle.std.proofs.Common.{arith}
use Rattle.std.proofs.lemmas.Bool.Decides.{nat_tests}
use Rattle.std.proofs.lemmas.Nat.{one_shl}
use Rattle.doors.proofs.Sets.{has-true}
use Rattle.outlook.proofs.DoorSets.{without-sum, without-gone}
use Rattle.outlook.proofs.load_orders.without.Goals as goal

pub returns-clause-sum : goal.returns-clause-sum
returns-clause-sum c =
    rw (one_shl c.args.j 32 c.requires.small) (without-sum c.args.set c.args.j (has-true c.args.set c.args.j c.requires.among))

pub returns-clause-gone : goal.returns-clause-gone
returns-clause-gone c =
    let gone = without-gone c.args.set c.args.j (has-true c.args.set c.args.j c.requires.among) in
    rw (one_shl c.args.j 32 c.requires.small) (grind (arith, nat_tests))
