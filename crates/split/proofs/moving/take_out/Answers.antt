use Rattle.std.proofs.Common.{length, arith}
use borrow.Author.Rules.{scaled_Fits}
use Rattle.split.proofs.Joins.{taken_out}
use Rattle.split.proofs.moving.take_out.Goals as goal

pub returns : goal.returns
returns g c = grind (arith, taken_out)

pub offset_bounds-us-last : goal.offset_bounds-us-last
offset_bounds-us-last g c = scaled_Fits _ (length c.args.us.now) _ (omega arith) c.well_formed.0.1
