use Rattle.labels.proofs.up.+rise_from.Given as goal

abbrev pub decreases-rise_from : goal.decreases-rise_from
decreases-rise_from g l = l.later
