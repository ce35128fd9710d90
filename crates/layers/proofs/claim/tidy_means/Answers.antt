use Rattle.layers.proofs.Tidying.{tidy-means, tidy-stays}
use Rattle.layers.proofs.claim.tidy_means.Goals as goal

pub returns : goal.returns
returns c = record { left = tidy-means; alone = tidy-stays }
