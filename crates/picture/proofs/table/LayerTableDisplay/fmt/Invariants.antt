-- The lines of the first k nodes are written.
use Rattle.std.proofs.Common.{take}
use Rattle.std.specs.Fmt.{HasWritten, IsPlainFormatter}
use Rattle.picture.specs.Words.{numbered}
use Rattle.picture.specs.Tables.{row_text}
use Rattle.picture.proofs.table.LayerTableDisplay.fmt.Given as goal

abbrev pub invariant-loop-k : goal.invariant-loop-k
invariant-loop-k g l =
    IsPlainFormatter l.initial.f → HasWritten g.W.Write.write_str_gives l.initial.f (numbered row_text (take l.k l.self.0.now)) l.f
