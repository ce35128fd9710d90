use Rattle.filter.proofs.quiet.+stay_from.Given as goal

abbrev pub decreases-stay_from : goal.decreases-stay_from
decreases-stay_from g l = l.left
