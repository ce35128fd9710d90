use Rattle.std.proofs.Common.{sym, refl}
use Rattle.std.proofs.lemmas.Result.{err_from_is_err_and}
use Rattle.text.proofs.Lawful.{doors-fair, grid-fair, rows-fair, keepers-fair}
use Rattle.text.proofs.Forms.{accepted_form}
use Rattle.text.proofs.Backs.{refused_form}
use Rattle.text.proofs.reading.read.Goals as goal

pub invariant_of-round : goal.invariant_of-round
invariant_of-round c =
    let w = accepted_form c.args.text.now c.in_ok-n.field-0 (sym c.in_ok-n.ensures) in
    let doors = doors-fair w.content w.fits in
    let rows = rows-fair w.content w.fits in
    let grid = grid-fair w.content.head.grid w.fits.grid in
    let keepers = keepers-fair w.content w.fits in
    rw (← w.round) (record {
      one = w.fits.one;
      most = w.fits.most;
      within = w.fits.load;
      small = w.fits.cap;
      grid_one = grid.0;
      grid_most = grid.1;
      opens = λ k. (doors k).opens;
      closes = λ k. (doors k).closes;
      due = λ k. (doors k).due;
      some = λ k. (doors k).some;
      work = λ k. (doors k).work;
      low = λ k. (doors k).low;
      high = λ k. (doors k).high;
      legs = λ i j. (rows i j).0;
      own = λ j. (rows j j).1 refl;
      keeper_most = λ j. (keepers j).0;
      keeper_yard = (keepers 0).1 refl;
    })

pub returns-in_err-n-clause-form : goal.returns-in_err-n-clause-form
returns-in_err-n-clause-form c =
    let e = err_from_is_err_and c.from_residual.result c.from_residual.ensures.1 in
    rw e.1 (refused_form c.args.text.now _ c.in_err-n.ensures)
