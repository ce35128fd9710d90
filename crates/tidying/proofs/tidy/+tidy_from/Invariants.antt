use Rattle.tidying.proofs.tidy.+tidy_from.Given as goal

abbrev pub decreases-tidy_from : goal.decreases-tidy_from
decreases-tidy_from g l = l.left
