use Rattle.std.proofs.Common.{refl, sym, subst, arith}
use Rattle.layers.specs.Shape.{IsShaped, IsTimely}
use Rattle.split.proofs.CallWords.{join-shaped, join-timely}
use Rattle.diagram.proofs.diagram.Diagram.join.Goals as goal

pub invariant_of-self : goal.invariant_of-self
invariant_of-self g c =
    let d = c.args.self.now in
    record {
      fits = omega (arith, d.fits);
      shaped = subst (IsShaped d.room.round.now.n d.room.width) (sym c.join.ensures.steps) (join-shaped _ _ _ _ _ d.room.wide d.room.narrow d.fits d.shaped);
      timely = subst (IsTimely d.room.round.now.n d.room.width) (sym c.join.ensures.steps) (join-timely _ _ _ _ _ d.room.wide d.room.narrow d.fits d.shaped d.timely);
    }

pub returns : goal.returns
returns g c =
    let d = c.args.self.now in
    let done = c.join.ensures.words record { some = d.room.wide; few = d.room.narrow; fit = d.fits; shaped = d.shaped } in
    record { room = refl; records = done.1; answer = done.0; lender = refl }
