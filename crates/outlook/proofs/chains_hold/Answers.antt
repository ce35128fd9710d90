use Rattle.outlook.proofs.ChainLemmas.{chains, circles}
use Rattle.outlook.proofs.chains_hold.Goals as goal

pub returns-clause-holds : goal.returns-clause-holds
returns-clause-holds c = λ ahead i j h w o. chains ahead w o i h.0 j h.1

pub returns-clause-circles : goal.returns-clause-circles
returns-clause-circles c = circles
