use Rattle.std.proofs.Common.{◌≡◌, ◌+◌, ◌*◌, ◌≤◌, cond, List, length, sym, refl, ap, ◌∙◌, subst, arith}
use Rattle.std.proofs.lemmas.Bool.{cond-true}
use Rattle.layers.specs.declared.node.Node.{Node}
use Rattle.layers.specs.Settings.{Setting, setting}
use Rattle.layers.specs.Calls.{after_open, after_calls}
use Rattle.layers.specs.Claim.{ClaimHolds, WholeSettles}
use Rattle.layers.specs.SweepLaws.{RefineSweepsOutFrom}
use Rattle.layers.proofs.Main.{kept}
use Rattle.layers.proofs.Wholes.{whole-settles, refine-sweeps-out}
use Rattle.labels.specs.Passes.{fits, relabelled}
use Rattle.diagram.specs.Opening.{every_door, arced}
use Rattle.layers.specs.Shape.{IsShaped, IsTimely}
use Rattle.diagram.proofs.Opened.{laid-opened, room, opened-shaped, opened-timely}
use Rattle.diagram.proofs.diagram.Diagram.open.Goals as goal

-- arcs laid, then labels worked out
both : {S V : Type 0} (by : Setting S V) (a : 1 ≤ by.width) (b : by.width ≤ 128) (xs ys zs : List (Node S V)) → by.round.n * by.width + 1 ≤ length xs
    → ys ≡ arced (every_door by.round.n) by.width by.round.n xs → zs ≡ cond (fits by.round.n by.width (length ys)) (relabelled by ys) ys → zs ≡ after_open by xs
both by a b xs ys zs h e f =
    f
    ∙ ap (λ (ys : List (Node _ _)). cond (fits by.round.n by.width (length ys)) (relabelled by ys) ys) e
    ∙ cond-true _ _ _ (room by a b xs h)
    ∙ laid-opened by a b xs h

pub invariant_of-result : goal.invariant_of-result
invariant_of-result g c =
    let by = setting c.args.room.round.now (g.R.Rule.sense c.args.rule.now) (g.T.Tally.sense c.args.tally.now) c.args.room.width in
    let n = by.round.n in
    let W = by.width in
    let a = c.args.room.wide in
    let b = c.args.room.narrow in
    let xs = c.args.nodes.now in
    let all = both by a b xs c.lay_arcs.new.nodes c.relabel.new.nodes c.requires c.lay_arcs.ensures c.relabel.ensures.passes in
    record {
      fits = omega arith;
      shaped = subst (IsShaped n W) (sym all) (opened-shaped by a b xs c.requires);
      timely = subst (IsTimely n W) (sym all) (opened-timely by a b xs c.requires);
    }

pub returns : goal.returns
returns g c =
    let r = c.args.room.round.now in
    let R = g.R.Rule.sense c.args.rule.now in
    let T = g.T.Tally.sense c.args.tally.now in
    let K = g.R.Rule.keeps c.args.rule.now in
    let W = c.args.room.width in
    let by = setting r R T W in
    let a = c.args.room.wide in
    let b = c.args.room.narrow in
    let xs = c.args.nodes.now in
    let all = both by a b xs c.lay_arcs.new.nodes c.relabel.new.nodes c.requires c.lay_arcs.ensures c.relabel.ensures.passes in
    record {
      room = refl;
      records = all;
      lender = refl;
      claim = λ e f cs. subst (λ (ys : List (Node g.row.S.Denot g.row.V.Denot)). ClaimHolds by K cs (after_calls by cs ys)) (sym all)
          (kept _ _ R T (λ n h. g.met.R.Rule.lawful c.args.rule.now n h) (λ n h. g.met.T.Tally.lawful c.args.tally.now n h) r e f W a b xs cs);
      whole = λ e cs. subst (λ (ys : List (Node g.row.S.Denot g.row.V.Denot)). WholeSettles by (after_calls by cs ys)) (sym all)
          (whole-settles _ R T (λ n h. g.met.R.Rule.lawful c.args.rule.now n h) r e W a b xs cs);
      swept_out = λ e. subst (λ (ys : List (Node g.row.S.Denot g.row.V.Denot)). RefineSweepsOutFrom by ys) (sym all)
          (refine-sweeps-out _ R T (λ n h. g.met.R.Rule.lawful c.args.rule.now n h) r e W a b xs);
    }
