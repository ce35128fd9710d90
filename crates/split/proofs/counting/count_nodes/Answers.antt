use Rattle.std.proofs.Common.{Bool, not, eqb, ◌∙◌, rules, tests}
use Rattle.std.proofs.lemmas.Iterator.{YieldsList-from_slice}
use Rattle.std.proofs.lemmas.Iterator.Consumers.{count_from_yields_List}
use Rattle.std.proofs.lemmas.Iterator.Search.{YieldsList-from_take_while}
use Rattle.std.proofs.lemmas.List.Folds.{length-prefix_len}
use Rattle.layers.specs.declared.node.Node.{Node}
use Rattle.split.proofs.Checks.{standing-counted}
use Rattle.split.proofs.counting.count_nodes.Goals as goal

pub returns : goal.returns
returns g c =
    let us = c.args.us.now in
    let used : Node g.row.S.Denot g.row.V.Denot → Bool = λ u. not (eqb u.label.down.lasts 0) in
    count_from_yields_List c.take_while.result _ c.count.ensures.ran (YieldsList-from_take_while _ used (YieldsList-from_slice us (cc)) c.take_while.ensures.closure c.take_while.ensures.done (λ x b q k. search (rules, tests)))
    ∙ length-prefix_len used us
    ∙ standing-counted us
