use Rattle.std.proofs.Common.{rules, arith}
use Rattle.std.proofs.Output.{has_written_append, has_written_of_eq}
use Rattle.picture.specs.Pictures.{box_text}
use Rattle.picture.proofs.Blank.{blank}
use Rattle.picture.proofs.Spaced.{numbered-more}
use Rattle.picture.proofs.groups.LayerGroupDisplay.fmt.Goals as goal

pub loop-k-preserved : goal.loop-k-preserved
loop-k-preserved g c = λ plain.
    has_written_of_eq _ _ _ _ _ (numbered-more (box_text c.args.self.now.layer) c.args.self.now.nodes.now c.loop-k.k blank (omega arith))
    (has_written_append _ _ _ _ _ _ (c.loop-k.invariant plain) (search rules))
