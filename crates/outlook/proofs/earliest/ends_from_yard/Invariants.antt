use Rattle.std.proofs.Common.{◌≡◌}
use Rattle.round.specs.Clock.{drive, finish}
use Rattle.outlook.proofs.Tables.{IsFilled}
use Rattle.outlook.proofs.earliest.ends_from_yard.Given as goal

abbrev pub invariant-loop-j : goal.invariant-loop-j
invariant-loop-j l = IsFilled l.round.n (λ j m. m ≡ finish l.round 0 (drive l.round 0 j) j) l.j l.ends
