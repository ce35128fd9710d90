-- Refine and settled as the code does them, on any list: the parts of a layer are made on arcs, and then labelled as far as they alter labels.
-- Nobody has to believe these steps: the facts at the end say, in the definitions of the calls, what they come to on the records of a diagram.
use Rattle.std.specs.Prelude.{◌≡◌, ℕ, zero, suc, ◌-◌, Bool, true, if◌then◌else◌, ◌&&◌, List, length, ◌==◌, nat_lt}
use Rattle.layers.specs.declared.node.Node.{Node}
use Rattle.layers.specs.declared.refined.Refined.{Refined}
use Rattle.layers.specs.declared.refined.Refined.TheVariants.{Whole, Full}
use Rattle.layers.specs.Settings.{Setting}
use Rattle.layers.specs.Calls.{refinement, is_settled}
use Rattle.layers.specs.Shape.{IsShaped}
use Rattle.labels.specs.Passes.{fits, below_steps}
use Rattle.filter.specs.Steps.{arc_count, sweep_steps, sweep_labelled_steps, quiet_steps, Done}
use Rattle.split.specs.Steps.{layer_steps, agreed_steps}

module _ {S V : Type 0} (by : Setting S V) where
  -- a sweep, of records whose labels are known to be those of this setting if `known` says so
  unfoldable pub one_sweep : Bool → List (Node S V) → List (Node S V)
  unfolding sweep_steps sweep_labelled_steps
  one_sweep known xs = if known then sweep_labelled_steps by xs else sweep_steps by xs

  -- layer i: a sweep, the parts of the layer, and the labels that these alter anew; yes if the layer was full. After the first
  -- layer the labels are known
  unfoldable pub one_layer : ℕ → List (Node S V) → Bool × List (Node S V)
  unfolding one_sweep layer_steps below_steps
  one_layer i xs = let p = layer_steps by i (one_sweep (nat_lt 1 i) xs) in (p.0, below_steps by i p.1)

  -- k layers from i on, up to one that was full
  unfoldable pub some_layers : ℕ → ℕ → List (Node S V) → Refined × List (Node S V)
  unfolding one_layer
  some_layers zero i xs = (Whole, xs)
  some_layers (suc k) i xs = let p = one_layer i xs in if p.0 then (Full i, p.1) else some_layers k (suc i) p.1

  -- sweeps until one takes out nothing, k at most
  unfoldable pub sweeps_out : Bool → ℕ → List (Node S V) → List (Node S V)
  unfolding one_sweep arc_count
  sweeps_out known zero xs = xs
  sweeps_out known (suc k) xs =
      let ys = one_sweep known xs in
      if arc_count by.round.n by.width xs - arc_count by.round.n by.width ys == 0 then ys else sweeps_out true k ys

  unfoldable pub refine_steps : List (Node S V) → Refined × List (Node S V)
  unfolding some_layers sweeps_out arc_count
  refine_steps xs = let p = some_layers (by.round.n - 1) 1 xs in (p.0, sweeps_out (nat_lt 1 by.round.n) (suc (arc_count by.round.n by.width p.1)) p.1)

  unfoldable pub settled_steps : List (Node S V) → Bool
  unfolding agreed_steps quiet_steps
  settled_steps xs = agreed_steps by xs && quiet_steps by.round by.rule by.width xs

  -- on the records of a diagram: what the definitions of the calls say
  abbrev pub RefineDone : List (Node S V) → List (Node S V) → Refined → Type 0
  RefineDone xs ys m =
      fits by.round.n by.width (length xs) ≡ true → IsShaped by.round.n by.width xs
      → Done by.round.n by.width (refinement by xs).1 ys (refinement by xs).0 m

  abbrev pub SettledDone : List (Node S V) → Bool → Type 0
  SettledDone xs b = fits by.round.n by.width (length xs) ≡ true → IsShaped by.round.n by.width xs → b ≡ is_settled by xs
