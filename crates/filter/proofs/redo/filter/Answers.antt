use Rattle.std.proofs.Common.{◌≡◌, ◌-◌, map, sym, ap, ◌∙◌}
use Rattle.layers.specs.Settings.{lent_setting}
use Rattle.labels.proofs.Climbs.{arcs_of}
use Rattle.filter.specs.Steps.{arc_count}
use Rattle.filter.proofs.FilterWords.{filter-done}
use Rattle.filter.proofs.Relabelled.{same-count, anew-arcs, anew-steps}
use Rattle.filter.proofs.redo.filter.Goals as goal

pub returns : goal.returns
returns g c =
    let by = lent_setting c.args.by.now (g.R.Rule.sense c.args.by.now.rule.now) (g.T.Tally.sense c.args.by.now.tally.now) in
    let xs = c.args.nodes.now in
    let ys = c.thin-gone.new.nodes in
    let zs = c.label_anew.new.nodes in
    let steps = c.label_anew.ensures ∙ anew-steps by (g.F.Test.goes c.args.test.now by.round) c.args.labelled c.thin-gone.result xs ys c.thin-gone.ensures.steps c.thin-gone.ensures.none in
    let counted : c.thin-gone.result ≡ arc_count by.round.n by.width xs - arc_count by.round.n by.width zs =
    c.thin-gone.ensures.counted ∙ ap (λ m. arc_count by.round.n by.width xs - m) (same-count by.round.n by.width ys zs (sym (ap (map arcs_of) c.label_anew.ensures ∙ anew-arcs by c.args.labelled c.thin-gone.result ys))) in
    record { steps = steps; counted = counted; words = λ same s. filter-done by xs c.requires.room s _ _ _ (c.label_anew.auto.nodes ∙ c.thin-gone.auto.nodes) counted c.args.labelled same steps }
