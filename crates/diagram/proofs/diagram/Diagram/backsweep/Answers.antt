use Rattle.std.proofs.Common.{length, refl, arith}
use Rattle.labels.proofs.Rooms.{room-from}
use Rattle.diagram.proofs.diagram.Diagram.backsweep.Goals as goal

pub invariant_of-self : goal.invariant_of-self
invariant_of-self g c =
    let d = c.args.self.now in
    let done = c.backsweep.ensures.words (room-from d.room.round.now.n d.room.width (length d.nodes.now) d.room.wide d.room.narrow d.fits) d.shaped in
    record { fits = omega (arith, d.fits); shaped = done.shaped; timely = done.timely }

pub returns : goal.returns
returns g c =
    let d = c.args.self.now in
    let done = c.backsweep.ensures.words (room-from d.room.round.now.n d.room.width (length d.nodes.now) d.room.wide d.room.narrow d.fits) d.shaped in
    record { room = refl; records = done.records; answer = done.answer; lender = refl }
