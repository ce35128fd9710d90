use Rattle.std.proofs.Common.{suc, leb, ◌++◌, drop, ap, ◌∙◌}
use Rattle.std.proofs.lemmas.List.{take-append-drop}
use Rattle.layers.specs.Settings.{lent_setting}
use Rattle.split.specs.Steps.{group_check, alike, next_records}
use Rattle.split.proofs.parting.part_second.Goals as goal

pub returns : goal.returns
returns g c =
    let by = lent_setting c.args.by.now (g.R.Rule.sense c.args.by.now.rule.now) (g.T.Tally.sense c.args.by.now.tally.now) in
    let n = c.part_node-answer.ensures in
    let told = ap (λ ys. ys ++ drop by.width c.args.nodes.now) c.list_layer.ensures.same ∙ take-append-drop by.width c.args.nodes.now in
    record {
      answer = n.0 ∙ ap (λ ys. group_check (alike by 0 (suc c.args.a) ys) (leb by.width c.args.count)) told;
      records = ap (λ ys. ys ++ drop by.width c.part_node-answer.new.nodes) c.put_back.ensures ∙ n.1 ∙ ap (next_records by 0 c.args.a c.args.count) told;
    }
