use Rattle.std.proofs.Common.{sym}
use Rattle.labels.proofs.Steps.{up_by_none, up_by-one}
use Rattle.labels.proofs.up.climb_by.Goals as goal
use Rattle.labels.proofs.up.climb_by.Goals.{then-t-eq0-via-then-t-eq0, then-t-eq0-via-else-t-eq0+then-t-vs}

pub returns-then-t-eq0 : goal.returns-then-t-eq0
returns-then-t-eq0 g c =
    let a = c.args in
    sym (up_by_none a.round.now a.vs.now a.u.now a.k
    (elim c.then-t-eq0.branch [
      | then-t-eq0-via-then-t-eq0 w ↦ λ ne. absurd (ne w.if-t-eq0.true)
      | then-t-eq0-via-else-t-eq0+then-t-vs w ↦ λ ne. w.if-t-vs.true
    ]))

pub returns : goal.returns
returns g c =
    let a = c.args in
    rw c.climb_from.ensures
    (sym (up_by-one a.round.now a.vs.now a.u.now a.k _ c.index-vs-t.result c.if-t-eq0.false c.if-t-vs.false c.requires.is_leg))
