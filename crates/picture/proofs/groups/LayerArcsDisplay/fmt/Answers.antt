use Rattle.std.proofs.Common.{rules, arith, ap}
use Rattle.std.proofs.Output.{has_written_append, has_written_of_eq}
use Rattle.std.proofs.lemmas.List.{take_all}
use Rattle.picture.specs.Words.{numbered}
use Rattle.picture.specs.Pictures.{arc_lines, arcs_after}
use Rattle.picture.proofs.Blank.{blank}
use Rattle.picture.proofs.Spaced.{numbered-more}
use Rattle.picture.proofs.groups.LayerArcsDisplay.fmt.Goals as goal

pub loop-k-preserved : goal.loop-k-preserved
loop-k-preserved g c = λ plain.
    has_written_of_eq _ _ _ _ _ (numbered-more (λ a x. arc_lines c.args.self.now.layer a x.arcs.to) c.args.self.now.nodes.now c.loop-k.k blank (omega arith))
    (has_written_append _ _ _ _ _ _ (c.loop-k.invariant plain) (search rules))

pub returns-clause-writes : goal.returns-clause-writes
unfolding arcs_after
returns-clause-writes g c = λ plain ok.
    has_written_of_eq _ _ _ _ _ (ap (numbered (λ a x. arc_lines c.args.self.now.layer a x.arcs.to)) (take_all c.loop-k.k c.args.self.now.nodes.now (omega arith)))
    (c.loop-k.invariant plain)
