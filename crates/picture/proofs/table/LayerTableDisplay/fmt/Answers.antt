use Rattle.std.proofs.Common.{rules, arith}
use Rattle.std.proofs.Output.{has_written_append, has_written_of_eq}
use Rattle.picture.specs.Tables.{row_text}
use Rattle.picture.proofs.Blank.{blank}
use Rattle.picture.proofs.Spaced.{numbered-more}
use Rattle.picture.proofs.table.LayerTableDisplay.fmt.Goals as goal

pub loop-k-preserved : goal.loop-k-preserved
loop-k-preserved g c = λ plain.
    has_written_of_eq _ _ _ _ _ (numbered-more row_text c.args.self.now.0.now c.loop-k.k blank (omega arith))
    (has_written_append _ _ _ _ _ _ (c.loop-k.invariant plain) (search rules))
