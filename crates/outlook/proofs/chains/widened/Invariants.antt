use Rattle.outlook.proofs.ChainLemmas.{Widens}
use Rattle.outlook.proofs.chains.widened.Given as goal

abbrev pub invariant-loop-k : goal.invariant-loop-k
invariant-loop-k l = Widens l.ahead l.set l.k l.wider
