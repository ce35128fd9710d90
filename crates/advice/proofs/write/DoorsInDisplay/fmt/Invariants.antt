-- The doors 1 to door - 1 of the set are written.
use Rattle.std.proofs.Common.{◌-◌}
use Rattle.std.specs.Fmt.{HasWritten, IsPlainFormatter}
use Rattle.advice.specs.Write.{doors_in}
use Rattle.advice.proofs.write.DoorsInDisplay.fmt.Given as goal

abbrev pub invariant-loop-door : goal.invariant-loop-door
invariant-loop-door g l =
    IsPlainFormatter l.initial.f
    → HasWritten g.W.Write.write_str_gives l.initial.f (doors_in l.self.0 (l.door - 1)) l.f
