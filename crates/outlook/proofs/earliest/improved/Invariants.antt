use Rattle.outlook.specs.Earliest.{IsLeastInto}
use Rattle.outlook.proofs.Tables.{IsFilled}
use Rattle.outlook.proofs.earliest.improved.Given as goal

abbrev pub invariant-loop-j : goal.invariant-loop-j
invariant-loop-j l = IsFilled l.round.n (IsLeastInto l.round l.ends) l.j l.least
