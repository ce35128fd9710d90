use Rattle.std.proofs.Common.{rules, arith, ap}
use Rattle.std.proofs.Output.{has_written_append, has_written_of_eq}
use Rattle.outlook.specs.Texts.{door_lines}
use Rattle.outlook.proofs.TextLemmas.{door_lines-more}
use Rattle.outlook.proofs.shown.DoorLinesDisplay.fmt.Goals as goal

pub loop-j-init : goal.loop-j-init
unfolding door_lines
loop-j-init g c = search rules

pub loop-j-preserved : goal.loop-j-preserved
loop-j-preserved g c = λ plain.
    has_written_of_eq _ _ _ _ _ (door_lines-more c.args.self.now.0.now c.loop-j.j c.loop-j.auto.j)
    (has_written_append _ _ _ _ _ _ (c.loop-j.invariant plain) (search rules))

pub returns-clause-writes : goal.returns-clause-writes
returns-clause-writes g c = λ plain ok. has_written_of_eq _ _ _ _ _ (ap (door_lines _) (omega arith)) (c.loop-j.invariant plain)
