use Rattle.std.proofs.Common.{take}
use Rattle.order_report.specs.Named.{NameDoors}
use Rattle.order_report.proofs.named.doors_named.Given as goal

abbrev pub invariant-loop-word : goal.invariant-loop-word
invariant-loop-word l = NameDoors l.round.n (take l.word-index l.words) l.doors.items
