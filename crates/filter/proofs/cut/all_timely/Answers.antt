use Rattle.std.proofs.Common.{take, leb, rules, tests}
use Rattle.std.proofs.lemmas.Iterator.{YieldsList-from_slice}
use Rattle.std.proofs.lemmas.Iterator.Search.{all_from_yields_List}
use Rattle.round.specs.Clock.{latest_finish}
use Rattle.layers.specs.declared.node.Node.{Node}
use Rattle.filter.proofs.cut.all_timely.Goals as goal

pub returns : goal.returns
returns g c =
    let us = take c.args.end c.args.nodes.now in
    all_from_yields_List (λ (x : Node g.row.S.Denot g.row.V.Denot). leb x.label.down.finish (latest_finish 15)) _ _ _ c.all.ensures.ran (YieldsList-from_slice us cc) (λ x b q k. search (rules, tests))
