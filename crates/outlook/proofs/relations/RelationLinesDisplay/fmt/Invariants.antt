-- The lines of the doors 1 to j - 1 are written.
use Rattle.std.proofs.Common.{◌-◌}
use Rattle.std.specs.Fmt.{HasWritten, IsPlainFormatter}
use Rattle.outlook.specs.Relations.{relation_lines}
use Rattle.outlook.proofs.relations.RelationLinesDisplay.fmt.Given as goal

abbrev pub invariant-loop-j : goal.invariant-loop-j
invariant-loop-j g l =
    IsPlainFormatter l.initial.f
    → HasWritten g.W.Write.write_str_gives l.initial.f (relation_lines l.self.relation l.self.outlook.now (l.j - 1)) l.f
