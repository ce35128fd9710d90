use Rattle.std.proofs.Common.{rules, arith, ap}
use Rattle.std.proofs.Output.{has_written_append, has_written_of_eq}
use Rattle.std.proofs.lemmas.List.{take_all}
use Rattle.outlook.specs.Texts.{door_words}
use Rattle.outlook.proofs.TextLemmas.{door_words-more}
use Rattle.outlook.proofs.shown.DoorWordsDisplay.fmt.Goals as goal

pub loop-door-init : goal.loop-door-init
unfolding door_words
loop-door-init g c = search rules

pub loop-door-preserved : goal.loop-door-preserved
loop-door-preserved g c = λ plain.
    has_written_of_eq _ _ _ _ _ (door_words-more c.args.self.now.0.now c.loop-door.door-index (omega arith))
    (has_written_append _ _ _ _ _ _ (c.loop-door.invariant plain) (search rules))

pub returns-clause-writes : goal.returns-clause-writes
returns-clause-writes g c = λ plain ok.
    has_written_of_eq _ _ _ _ _ (ap door_words (take_all c.loop-door.door-index c.args.self.now.0.now (omega arith))) (c.loop-door.invariant plain)
