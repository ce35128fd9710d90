use Rattle.labels.proofs.down.+label_after.Given as goal

abbrev pub decreases-label_after : goal.decreases-label_after
decreases-label_after g l = l.later
