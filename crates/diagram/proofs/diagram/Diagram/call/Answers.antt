use Rattle.std.proofs.Common.{ap}
use Rattle.layers.specs.Calls.{after_call, answer_of}
use Rattle.layers.specs.declared.call.Answer.TheVariants.{Done}
use Rattle.diagram.proofs.diagram.Diagram.call.Goals as goal

pub returns-in-Part : goal.returns-in-Part
unfolding after_call answer_of
returns-in-Part g c = let p = c.part.ensures in rw c.in-Part.is (record { room = p.room; records = p.records; within = tt; answer = ap Done p.answer; lender = p.lender })
