use Rattle.std.proofs.Common.{rules}
use Rattle.std.proofs.Output.{has_written_append, has_written_of_eq}
use Rattle.advice.specs.Write.{doors_in}
use Rattle.advice.proofs.DoorTexts.{doors_in-more}
use Rattle.advice.proofs.write.DoorsInDisplay.fmt.Goals as goal

pub loop-door-init : goal.loop-door-init
unfolding doors_in
loop-door-init g c = search rules

pub loop-door-preserved : goal.loop-door-preserved
loop-door-preserved g c = λ plain.
    has_written_of_eq _ _ _ _ _ (doors_in-more c.args.self.now.0 c.loop-door.door c.loop-door.auto.door)
    (has_written_append _ _ _ _ _ _ (c.loop-door.invariant plain) (search rules))
