use Rattle.std.proofs.Common.{◌≡◌, ℕ, List, set, sym, ap, ◌∙◌, add-one, arith}
use Rattle.layers.specs.Net.{table}
use Rattle.layers.specs.Records.{padded_targets}
use Rattle.diagram.proofs.Arcs_laid.{one_more}
use Rattle.diagram.proofs.lay.every_door.Goals as goal

pub loop-k-preserved : goal.loop-k-preserved
loop-k-preserved c =
    let k = c.loop-k.k in
    ap (λ (xs : List ℕ). set xs k 1) c.loop-k.invariant ∙ one_more 16 k (omega arith) ∙ ap (λ (m : ℕ). padded_targets (table m (λ j. 1))) (sym (add-one k))

pub returns : goal.returns
returns c =
    let all : c.loop-k.k ≡ c.args.n = omega arith in
    ap (λ (xs : List ℕ). record { to = xs }) (c.loop-k.invariant ∙ ap (λ (m : ℕ). padded_targets (table m (λ j. 1))) all)
