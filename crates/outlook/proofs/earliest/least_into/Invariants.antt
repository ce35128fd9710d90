use Rattle.outlook.proofs.Tables.{IsLeastSoFar}
use Rattle.outlook.proofs.earliest.least_into.Given as goal

abbrev pub invariant-loop-i : goal.invariant-loop-i
invariant-loop-i l = IsLeastSoFar l.round l.ends l.j l.i l.least
