use Rattle.std.proofs.Common.{◌+◌, ◌-◌, arith}
use Rattle.split.proofs.Checks.{count_most}
use Rattle.split.proofs.counting.count_in.Goals as goal

pub returns-clause-most : goal.returns-clause-most
returns-clause-most g c = omega (arith, c.count_nodes.ensures, count_most c.args.at (c.args.at + c.args.w - c.args.at) c.args.nodes.now)
