use Rattle.std.proofs.Common.{◌-◌, get_or, sym, arith}
use Rattle.std.proofs.lemmas.Bool.{eq-eqb, ne_eqb}
use Rattle.std.proofs.lemmas.List.{set_past}
use Rattle.labels.specs.Passes.{landed, hit, crossed}
use Rattle.labels.proofs.down.cross.Goals as goal
use Rattle.labels.proofs.down.cross.Goals.{then-t-eq0-via-then-t-eq0, then-t-eq0-via-else-t-eq0+then-t-vs}

pub returns-then-t-eq0 : goal.returns-then-t-eq0
unfolding crossed hit landed
returns-then-t-eq0 g c =
    elim c.then-t-eq0.branch [
      | then-t-eq0-via-then-t-eq0 w ↦ (let e = eq-eqb _ 0 w.if-t-eq0.true in rw e)
      | then-t-eq0-via-else-t-eq0+then-t-vs w ↦
          (let t = get_or c.args.u.now.arcs.to c.args.k 0 in
          let e = ne_eqb t 0 w.if-t-eq0.false in
          rw e (sym (set_past c.args.vs.now (t - 1) _ (omega (arith, w.if-t-vs.true)))))
    ]
