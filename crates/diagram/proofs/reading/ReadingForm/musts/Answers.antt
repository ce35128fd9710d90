use Rattle.std.proofs.Common.{◌≡◌, ◌≤◌, length, refl, ◌∙◌}
use Rattle.std.proofs.lemmas.Bool.{cond-true}
use Rattle.diagram.specs.Musts.{musts}
use Rattle.diagram.proofs.Musts_each.{room-for, musts-each, musts-paths}
use Rattle.diagram.proofs.reading.ReadingForm.musts.Goals as goal

pub returns : goal.returns
returns g c =
    let r = c.args.self.now.room in
    let n = r.round.now.n in
    let xs = c.args.self.now.nodes.now in
    let most : n ≤ 16 = r.round.now.most in
    let e : c.musts.result ≡ musts n r.width xs = c.musts.ensures ∙ cond-true _ _ _ (room-for n r.width (length xs) r.wide r.narrow most c.args.self.now.fits) in
    rw e (record { sets = refl; each = musts-each n r.width xs most; paths = musts-paths n r.width xs most })
