use Rattle.std.proofs.Common.{rules}
use Rattle.filter.proofs.sweep.SixTestsTest.takes_out.Goals as goal

pub returns-then-too_late : goal.returns-then-too_late
returns-then-too_late g c = search rules

pub returns-else-too_late : goal.returns-else-too_late
returns-else-too_late g c = search rules
