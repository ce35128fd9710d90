use Rattle.std.proofs.Common.{◌≡◌, length, ◌∙◌, ap₂, arith, rules, tests}
use Rattle.std.proofs.lemmas.Iterator.{YieldsList-from_slice, YieldsList-from_zip}
use Rattle.std.proofs.lemmas.Iterator.Search.{any_from_yields_List}
use Rattle.layers.specs.Join.{clash}
use Rattle.split.proofs.Joins.{apartPair, clash-zipped, all-targets}
use Rattle.split.proofs.uniting.clashes.Goals as goal

pub returns : goal.returns
returns g c =
    let x = c.args.x.now in
    let y = c.args.y.now in
    let long : length x.arcs.to ≡ 16 = omega arith in
    let long' : length y.arcs.to ≡ 16 = omega arith in
    any_from_yields_List apartPair c.any.new.self _ _ c.any.ensures.ran (YieldsList-from_zip (YieldsList-from_slice x.arcs.to cc) (YieldsList-from_slice y.arcs.to cc)) (λ p b q k. search (rules, tests))
    ∙ clash-zipped x.arcs.to y.arcs.to
    ∙ ap₂ clash (all-targets x long) (all-targets y long')
