-- The lines of the doors 1 to door - 1 are written.
use Rattle.std.proofs.Common.{◌-◌}
use Rattle.std.specs.Fmt.{HasWritten, IsPlainFormatter}
use Rattle.round_sheet.specs.Texts.{must_lines}
use Rattle.round_sheet.proofs.lines.SheetDisplay.fmt.Given as goal

abbrev pub invariant-loop-door : goal.invariant-loop-door
invariant-loop-door g l =
    IsPlainFormatter l.initial.f
    → HasWritten g.W.Write.write_str_gives l.initial.f (must_lines l.self.musts (l.door - 1)) l.f
