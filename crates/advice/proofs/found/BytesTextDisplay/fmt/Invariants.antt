-- The bytes ahead of this one are written.
use Rattle.std.proofs.Common.{take}
use Rattle.std.specs.Fmt.{HasWritten, IsPlainFormatter}
use Rattle.advice.specs.Found.{bytes_text}
use Rattle.advice.proofs.found.BytesTextDisplay.fmt.Given as goal

abbrev pub invariant-loop-byte : goal.invariant-loop-byte
invariant-loop-byte g l =
    IsPlainFormatter l.initial.f
    → HasWritten g.W.Write.write_str_gives l.initial.f (bytes_text (take l.byte-index l.self.0.now)) l.f
