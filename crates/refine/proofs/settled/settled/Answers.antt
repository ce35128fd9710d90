-- Where the in-arcs agree the answer is whether a sweep takes out nothing, and elsewhere no.
use Rattle.std.proofs.Common.{refl, arith}
use Rattle.std.proofs.lemmas.Bool.Decides.{nat_tests}
use Rattle.labels.proofs.Rooms.{room-facts}
use Rattle.layers.specs.Calls.{is_settled}
use Rattle.split.specs.Steps.{agreed_steps}
use Rattle.refine.specs.Steps.{settled_steps}
use Rattle.refine.proofs.settled.settled.Goals as goal

pub returns-then-agreed-clause-steps : goal.returns-then-agreed-clause-steps
unfolding settled_steps agreed_steps
returns-then-agreed-clause-steps g c t = grind (arith, nat_tests, c.agreed.ensures.steps t)

pub returns-then-agreed-clause-words : goal.returns-then-agreed-clause-words
unfolding is_settled
returns-then-agreed-clause-words g c t fit shaped =
    let room = room-facts _ _ _ fit in
    rw (← c.agreed.ensures.words t (record { some = room.low; few = room.high; fit = room.enough; shaped = shaped }), c.if-agreed.true) (c.quiet.ensures.words fit shaped)

pub returns-else-agreed-clause-steps : goal.returns-else-agreed-clause-steps
unfolding settled_steps
returns-else-agreed-clause-steps g c t = rw (← c.agreed.ensures.steps t, c.if-agreed.false) refl

pub returns-else-agreed-clause-words : goal.returns-else-agreed-clause-words
unfolding is_settled
returns-else-agreed-clause-words g c t fit shaped =
    let room = room-facts _ _ _ fit in
    rw (← c.agreed.ensures.words t (record { some = room.low; few = room.high; fit = room.enough; shaped = shaped }), c.if-agreed.false) refl
