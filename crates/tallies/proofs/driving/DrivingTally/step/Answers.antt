use Rattle.std.proofs.Common.{rules}
use Rattle.tallies.proofs.driving.DrivingTally.step.Goals as goal

pub returns : goal.returns
returns c = search rules
