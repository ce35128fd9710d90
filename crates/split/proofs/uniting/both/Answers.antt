use Rattle.std.proofs.Common.{◌≡◌, ℕ, get_or, set, replicate, sym, ap, ◌∙◌, arith}
use Rattle.layers.specs.Targets.{with_targets}
use Rattle.labels.proofs.Writing.{over-more}
use Rattle.layers.specs.Join.{either_target}
use Rattle.split.proofs.Joins.{pick_some, picked, both-made}
use Rattle.labels.proofs.Redirects.{written}
use Rattle.split.proofs.uniting.both.Goals as goal
use Rattle.split.proofs.uniting.both.Goals.{then-x-k-eq0, else-x-k-eq0}

pub loop-k-preserved : goal.loop-k-preserved
loop-k-preserved g c =
    let x = c.args.x.now in
    let y = c.args.y.now in
    let k = c.loop-k.k in
    let f : ℕ → ℕ = picked x y in
    let here : c.if-x-k-eq0.to ≡ f k =
    elim c.if-x-k-eq0.branch [
      | then-x-k-eq0 w ↦ w.to-is ∙ ap (λ s. either_target s (get_or y.arcs.to k 0)) (sym w.if-x-k-eq0.true)
      | else-x-k-eq0 w ↦ w.to-is ∙ pick_some (get_or x.arcs.to k 0) (get_or y.arcs.to k 0) w.if-x-k-eq0.false
    ] in
    ap (set c.loop-k.to k) here ∙ ap (λ ts. set ts k (f k)) c.loop-k.invariant ∙ over-more f (replicate {A = ℕ} 16 0) k c.loop-k-test.true

pub returns : goal.returns
returns g c =
    let x = c.args.x.now in
    let y = c.args.y.now in
    let all : c.loop-k.k ≡ 16 = omega arith in
    ap (with_targets x) (c.loop-k.invariant ∙ ap (written (picked x y)) all) ∙ both-made x y
