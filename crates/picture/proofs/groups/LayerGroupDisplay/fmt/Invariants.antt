use Rattle.std.proofs.Common.{take}
use Rattle.std.specs.Fmt.{HasWritten, IsPlainFormatter}
use Rattle.picture.specs.Words.{numbered}
use Rattle.picture.specs.Pictures.{box_text}
use Rattle.picture.proofs.groups.LayerGroupDisplay.fmt.Given as goal

-- The boxes of the first k nodes are written.
abbrev pub invariant-loop-k : goal.invariant-loop-k
invariant-loop-k g l =
    IsPlainFormatter l.initial.f → HasWritten g.W.Write.write_str_gives l.initial.f (numbered (box_text l.self.layer) (take l.k l.self.nodes.now)) l.f
