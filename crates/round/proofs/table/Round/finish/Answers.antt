use Rattle.round.proofs.Clocks.{clock-laws, least-multiple}
use Rattle.round.proofs.table.Round.finish.Goals as goal

pub returns-clause-start : goal.returns-clause-start
returns-clause-start c = least-multiple _ _ c.args.self.now.grid_one

pub returns-clause-laws : goal.returns-clause-laws
returns-clause-laws c = clock-laws c.args.self.now
