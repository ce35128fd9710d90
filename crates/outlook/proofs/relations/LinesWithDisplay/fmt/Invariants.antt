-- The lines of the doors 1 to i - 1 are written.
use Rattle.std.proofs.Common.{◌-◌}
use Rattle.std.specs.Fmt.{HasWritten, IsPlainFormatter}
use Rattle.outlook.specs.Relations.{lines_with}
use Rattle.outlook.proofs.relations.LinesWithDisplay.fmt.Given as goal

abbrev pub invariant-loop-i : goal.invariant-loop-i
invariant-loop-i g l =
    IsPlainFormatter l.initial.f
    → HasWritten g.W.Write.write_str_gives l.initial.f (lines_with l.self.relation l.self.outlook.now l.self.j (l.i - 1)) l.f
