use Rattle.std.proofs.Common.{◌≡◌, ◌≤◌, not, ap, ◌∙◌, arith}
use Rattle.labels.proofs.Legs.{leg_most}
use Rattle.layers.specs.Labels.{arrival_value}
use Rattle.filter.proofs.cut.CeilingValueTest.takes_out.Goals as goal

pub overflow_cast-finish : goal.overflow_cast-finish
overflow_cast-finish g c =
    let a = c.args.arc.now in
    let short : a.leg ≤ 999 = omega (arith, c.requires.is_leg, leg_most a.round.now c.args.u.now.lasts a.door) in
    let late = c.finish-finish.ensures.laws.bound 15 c.args.u.now.finish a.leg a.door c.requires.fits short in
    let same = c.finish-finish.ensures.value in
    record { fits = omega arith }

pub returns : goal.returns
returns g c =
    let t = c.args.self.now in
    let a = c.args.arc.now in
    let T = g.T.Tally.sense t.tally.now in
    let f = c.finish-finish.ensures.value in
    let l = c.requires.is_leg in
    let value : c.step-value.result ≡ arrival_value a.round.now T c.args.u.now a.door = cc in
    ap not (c.not_above.ensures ∙ ap (λ v. T.not_above v t.ceiling) value)
