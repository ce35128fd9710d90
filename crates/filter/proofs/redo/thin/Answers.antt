use Rattle.std.proofs.Common.{◌≡◌, ◌*◌, true, length, drop, sym, ap, ◌∙◌, arith}
use Rattle.std.proofs.lemmas.Grind.{common_steps}
use Rattle.std.proofs.lemmas.Bool.{cond-true, eq-eqb, ne_eqb}
use Rattle.layers.specs.Settings.{lent_setting}
use Rattle.layers.specs.declared.node.Node.{Node}
use Rattle.labels.specs.Passes.{fits, blank_node}
use Rattle.labels.proofs.Rooms.{room-facts}
use Rattle.tidying.specs.Counted.{arcs_within}
use Rattle.tidying.specs.Tidied.{bare_node, tidied, first_mark}
use Rattle.filter.specs.Kept.{kept_from}
use Rattle.filter.specs.Steps.{thinned}
use Rattle.filter.proofs.Kept.{count-whole, none-counted}
use Rattle.filter.proofs.KeptNet.{kept-later}
use Rattle.filter.proofs.redo.thin.Goals as goal

pub take_from-gone-requires : goal.take_from-gone-requires
take_from-gone-requires g c =
    let f = room-facts c.args.by.now.round.now.n c.args.by.now.width (length c.args.nodes.now) c.requires.room in
    record { layer_bound = omega arith; width_in_bounds = omega (arith, f.enough); width_bound = f.high; fits = c.requires.fits }

pub returns-then-gone-eq0 : goal.returns-then-gone-eq0
unfolding thinned
returns-then-gone-eq0 g c =
    let r = c.args.by.now.round.now in
    let W = c.args.by.now.width in
    let xs = c.args.nodes.now in
    let take = c.take_from-gone.ensures in
    let gone = c.if-gone-eq0.true in
    let none = none-counted (g.F.Test.goes c.args.test.now r) r.n W xs (room-facts r.n W (length xs) c.requires.room).enough _ take.left _ take.gone ∙ eq-eqb _ 0 gone in
    record { steps = rw none (take.none gone); none = sym none; counted = rw (take.none gone) (omega arith) }

pub returns : goal.returns
unfolding thinned
returns g c =
    let by = lent_setting c.args.by.now (g.R.Rule.sense c.args.by.now.rule.now) (g.T.Tally.sense c.args.by.now.tally.now) in
    let n = by.round.n in
    let W = by.width in
    let z = blank_node by.rule by.tally in
    let xs = c.args.nodes.now in
    let ys = c.take_from-gone.new.nodes in
    let goes = g.F.Test.goes c.args.test.now by.round in
    let take = c.take_from-gone.ensures in
    let gone = c.if-gone-eq0.false in
    let enough = (room-facts n W (length xs) c.requires.room).enough in
    let none = none-counted goes n W xs enough _ take.left _ take.gone ∙ ne_eqb _ 0 gone in
    let room : fits n W (length ys) ≡ true = ap (fits n W) c.take_from-gone.auto.nodes ∙ c.requires.room in
    let is : c.tidy.new.nodes ≡ tidied W z n first_mark (kept_from goes W 0 n xs) =
    c.tidy.ensures.records ∙ cond-true (fits n W (length ys)) _ _ room ∙ ap (λ (z : Node g.row.R-State.Denot g.row.T-Value.Denot). tidied W (bare_node z.label) n first_mark ys) c.blank_node-blank.ensures
    ∙ ap (tidied W z n first_mark) take.left in
    let later = ap arcs_within (ap (drop (n * W)) is ∙ kept-later goes n W z xs (omega (arith, enough))) in
    record {
      steps = rw none is;
      none = ne_eqb _ 0 (λ e. gone (omega (arith, e))) ∙ sym none;
      counted = omega (arith, count-whole n W xs, count-whole n W c.tidy.new.nodes, take.gone, c.tidy.ensures.lost, later);
    }

pub overflow_add-result : goal.overflow_add-result
overflow_add-result g c = grind (arith, common_steps)
