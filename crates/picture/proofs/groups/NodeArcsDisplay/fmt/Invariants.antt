use Rattle.std.proofs.Common.{take}
use Rattle.std.specs.Fmt.{HasWritten, IsPlainFormatter}
use Rattle.picture.specs.Words.{numbered}
use Rattle.picture.specs.Pictures.{arc_line}
use Rattle.picture.proofs.groups.NodeArcsDisplay.fmt.Given as goal

-- The arcs of the first k doors are written.
abbrev pub invariant-loop-k : goal.invariant-loop-k
invariant-loop-k g l =
    IsPlainFormatter l.initial.f
    → HasWritten g.W.Write.write_str_gives l.initial.f (numbered (arc_line l.self.layer l.self.number) (take l.k l.self.to)) l.f
