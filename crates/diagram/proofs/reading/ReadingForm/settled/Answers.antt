use Rattle.labels.proofs.Rooms.{room-from}
use Rattle.diagram.proofs.reading.ReadingForm.settled.Goals as goal

pub returns : goal.returns
returns g c t = let d = c.args.self.now in c.settled.ensures.words t (room-from _ _ _ d.room.wide d.room.narrow d.fits) d.shaped
