-- The doors with a pair to j are in, and each door in has to come ahead of j.
use Rattle.std.proofs.Common.{ℕ, ◌-◌, ◌^◌}
use Rattle.doors.specs.Sets.{Has}
use Rattle.rules.specs.Pairs.{Pair}
use Rattle.outlook.specs.Chains.{IsChained}
use Rattle.outlook.proofs.chains.all_ahead.Given as goal

abbrev pub invariant-loop-set : goal.invariant-loop-set
invariant-loop-set l = record {
  pairs : (i : ℕ) → Pair l.ahead i l.j → Has l.set i;
  only : (i : ℕ) → Has l.set i → IsChained l.ahead i l.j;
}

abbrev pub decreases-loop-set : goal.decreases-loop-set
decreases-loop-set l = 2 ^ 32 - l.set
