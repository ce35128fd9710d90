use Rattle.std.proofs.Common.{take}
use Rattle.std.specs.Fmt.{HasWritten, IsPlainFormatter}
use Rattle.picture.specs.Words.{numbered}
use Rattle.picture.specs.Pictures.{arc_lines}
use Rattle.picture.proofs.groups.LayerArcsDisplay.fmt.Given as goal

-- The arcs of the first k nodes are written.
abbrev pub invariant-loop-k : goal.invariant-loop-k
invariant-loop-k g l =
    IsPlainFormatter l.initial.f
    → HasWritten g.W.Write.write_str_gives l.initial.f (numbered (λ a x. arc_lines l.self.layer a x.arcs.to) (take l.k l.self.nodes.now)) l.f
