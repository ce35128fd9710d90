use Rattle.std.proofs.Common.{◌≡◌, ◌+◌, sym, ◌∙◌, arith}
use Rattle.std.proofs.lemmas.Grind.{common_steps}
use Rattle.layers.specs.Labels.{leg}
use Rattle.labels.proofs.Legs.{leg_none, leg_some}
use Rattle.labels.proofs.leg.legs.Goals as goal
use Rattle.labels.proofs.leg.legs.Goals.{then-drive-eq-FAR, else-drive-eq-FAR}

pub loop-k-preserved : goal.loop-k-preserved
loop-k-preserved c =
    let r = c.args.round.now in
    let s = c.args.lasts in
    let k = c.loop-k.k in
    let so_far = c.loop-k.invariant.rest k (omega arith) (omega arith) in
    let here : c.if-drive-eq-FAR.legs ≡ leg r s (k + 1) = elim c.if-drive-eq-FAR.branch [
      | then-drive-eq-FAR w ↦ w.legs-is ∙ sym (leg_none r s (k + 1) (sym so_far ∙ w.if-drive-eq-FAR.true))
      | else-drive-eq-FAR w ↦ w.legs-is ∙ so_far ∙ sym (leg_some r s (k + 1) (λ e. w.if-drive-eq-FAR.false (so_far ∙ e)))
    ] in
    record {
      done = λ m h. grind (arith, common_steps, here, c.loop-k.invariant.done m);
      rest = λ m h lt. grind (arith, common_steps, c.loop-k.invariant.rest m);
    }
