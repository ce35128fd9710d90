use Rattle.std.proofs.Common.{List, ◌++◌, drop, ap, ◌∙◌}
use Rattle.std.proofs.lemmas.List.{take-append-drop}
use Rattle.layers.specs.declared.node.Node.{Node}
use Rattle.split.specs.Steps.{node_count, parts_from}
use Rattle.split.proofs.parting.part_from.Goals as goal

pub put_back-requires : goal.put_back-requires
put_back-requires g c = c.part_listed-full.ensures.listed

pub returns : goal.returns
returns g c =
    let w = c.args.by.now.width in
    ap (λ (ys : List (Node g.row.R-State.Denot g.row.T-Value.Denot)). (c.part_listed-full.result, ys ++ drop w c.part_listed-full.new.nodes)) c.put_back.ensures
    ∙ c.part_listed-full.ensures.records ∙ ap (parts_from _ 0 w 0 (node_count w w c.args.nodes.now)) (ap (λ ys. ys ++ drop w c.args.nodes.now) c.list_layer.ensures.same ∙ take-append-drop w _)
