-- The lines of the doors 1 to j - 1 are written.
use Rattle.std.proofs.Common.{◌-◌}
use Rattle.std.specs.Fmt.{HasWritten, IsPlainFormatter}
use Rattle.round_sheet.specs.Texts.{lines_behind}
use Rattle.round_sheet.proofs.lines.LinesBehindDisplay.fmt.Given as goal

abbrev pub invariant-loop-j : goal.invariant-loop-j
invariant-loop-j g l =
    IsPlainFormatter l.initial.f
    → HasWritten g.W.Write.write_str_gives l.initial.f (lines_behind l.self.door l.self.behind (l.j-counter - 1)) l.f
