-- The first doors are written.
use Rattle.std.proofs.Common.{take}
use Rattle.std.specs.Fmt.{HasWritten, IsPlainFormatter}
use Rattle.outlook.specs.Texts.{door_words}
use Rattle.outlook.proofs.shown.DoorWordsDisplay.fmt.Given as goal

abbrev pub invariant-loop-door : goal.invariant-loop-door
invariant-loop-door g l =
    IsPlainFormatter l.initial.f → HasWritten g.W.Write.write_str_gives l.initial.f (door_words (take l.door-index l.self.0.now)) l.f
