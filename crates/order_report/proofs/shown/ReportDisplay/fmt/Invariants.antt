use Rattle.std.proofs.Common.{take, flat_map, length}
use Rattle.std.specs.List.{zip}
use Rattle.std.specs.Fmt.{HasWritten, IsPlainFormatter}
use Rattle.order_report.specs.Texts.{finish_line}
use Rattle.order_report.proofs.shown.ReportDisplay.fmt.Given as goal

abbrev pub invariant-loop-door : goal.invariant-loop-door
invariant-loop-door g l =
    IsPlainFormatter l.initial.f
    → HasWritten g.W.Write.write_str_gives l.initial.f (flat_map finish_line (take (length l.yielded) (zip l.self.doors.now l.self.finishes.items))) l.f
