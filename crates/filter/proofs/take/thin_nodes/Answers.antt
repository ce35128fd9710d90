use Rattle.std.proofs.Common.{◌+◌, ◌<◌, get_or, drop, set, sym, ap, ◌∙◌, arith, drop-set-lt}
use Rattle.std.proofs.lemmas.Grind.{common_steps}
use Rattle.std.proofs.lemmas.List.{get_or_default, drop-drop, set-get_or}
use Rattle.std.proofs.lemmas.List.Edits.{map_over_more}
use Rattle.std.proofs.lemmas.List.Sums.{sum_by-set}
use Rattle.tidying.specs.Counted.{arcs_of}
use Rattle.filter.specs.Kept.{kept_node}
use Rattle.filter.proofs.take.thin_nodes.Goals as goal

pub loop-u-preserved : goal.loop-u-preserved
loop-u-preserved g c =
    let at = c.args.at.now in
    let f = kept_node (g.F.Test.goes at.test.now at.round.now) at.layer at.left at.next.now in
    let E = c.args.us.now in
    let ys = c.loop-u.us in
    let p = c.loop-u.u-index in
    let x = get_or ys p c.u-item.result in
    let y = c.thin_node-gone.new.u in
    let past : p < p + 1 = omega arith in
    record {
      done = ap (set ys p) c.thin_node-gone.ensures.left ∙ map_over_more f E ys p x (omega arith) c.loop-u.invariant.done (get_or_default ys p c.u-item.result x (omega arith));
      rest = drop-set-lt (p + 1) ys p y past ∙ sym (drop-drop 1 p ys) ∙ ap (drop 1) c.loop-u.invariant.rest ∙ drop-drop 1 p E;
      gone = omega (arith, c.loop-u.invariant.gone, c.thin_node-gone.ensures.gone, sum_by-set arcs_of ys p y c.u-item.result (omega arith), ap arcs_of c.u-item.is);
      none = λ z. ap (set ys p) (c.thin_node-gone.ensures.none (omega (arith, z))) ∙ set-get_or ys p c.u-item.result ∙ c.loop-u.invariant.none (omega (arith, z));
      few = omega (arith, c.thin_node-gone.ensures.few);
    }

pub returns-clause-left : goal.returns-clause-left
returns-clause-left g c = grind (arith, common_steps)
