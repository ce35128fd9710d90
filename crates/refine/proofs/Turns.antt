-- One layer more, and one sweep more.
use Rattle.std.proofs.Common.{◌≡◌, ℕ, suc, ◌+◌, ◌-◌, ◌<◌, ◌≤◌, Bool, true, cond, eqb, List, ap, add-one, arith}
use Rattle.layers.specs.declared.node.Node.{Node}
use Rattle.layers.specs.declared.refined.Refined.TheVariants.{Whole, Full}
use Rattle.filter.specs.Steps.{arc_count}
use Rattle.refine.specs.Steps.{one_sweep, one_layer, some_layers, sweeps_out}
use Rattle.layers.specs.Settings.{Setting}

module _ {S V : Type 0} (by : Setting S V) where
  pub layers_more : (n i : ℕ) (xs : List (Node S V)) → i < n → some_layers by (n - i) i xs ≡ cond (one_layer by i xs).0 (Full i, (one_layer by i xs).1) (some_layers by (n - (i + 1)) (i + 1) (one_layer by i xs).1)
  unfolding some_layers
  layers_more n i xs lt = let e : n - i ≡ suc (n - (i + 1)) = omega arith in rw (e, add-one i)

  pub layers_none : (n i : ℕ) (xs : List (Node S V)) → n ≤ i → some_layers by (n - i) i xs ≡ (Whole, xs)
  unfolding some_layers
  layers_none n i xs le = let e : n - i ≡ 0 = omega arith in ap (λ (m : ℕ). some_layers by m i xs) e

  pub sweeps_more : (known : Bool) (k t : ℕ) (xs : List (Node S V)) → t < k → sweeps_out by known (k - t) xs ≡ cond (eqb (arc_count by.round.n by.width xs - arc_count by.round.n by.width (one_sweep by known xs)) 0) (one_sweep by known xs) (sweeps_out by true (k - (t + 1)) (one_sweep by known xs))
  unfolding sweeps_out
  sweeps_more known k t xs lt = let e : k - t ≡ suc (k - (t + 1)) = omega arith in ap (λ (m : ℕ). sweeps_out by known m xs) e

  pub sweeps_none : (known : Bool) (k t : ℕ) (xs : List (Node S V)) → k ≤ t → sweeps_out by known (k - t) xs ≡ xs
  unfolding sweeps_out
  sweeps_none known k t xs le = let e : k - t ≡ 0 = omega arith in ap (λ (m : ℕ). sweeps_out by known m xs) e
