use Rattle.std.proofs.Common.{rules}
use Rattle.std.proofs.Output.{has_written_append, has_written_of_eq}
use Rattle.round_sheet.specs.Texts.{must_lines}
use Rattle.round_sheet.proofs.SheetTexts.{must_lines-more}
use Rattle.round_sheet.proofs.lines.SheetDisplay.fmt.Goals as goal

pub loop-door-init : goal.loop-door-init
unfolding must_lines
loop-door-init g c = search rules

pub loop-door-preserved : goal.loop-door-preserved
loop-door-preserved g c = λ plain.
    has_written_of_eq _ _ _ _ _ (must_lines-more c.args.self.now.musts c.loop-door.door c.loop-door.auto.door)
    (has_written_append _ _ _ _ _ _ (c.loop-door.invariant plain) (search rules))
