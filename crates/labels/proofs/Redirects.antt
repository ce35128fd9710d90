-- A record whose arcs are redirected, door by door
use Rattle.std.proofs.Common.{◌≡◌, ℕ, zero, suc, ◌+◌, List, ◌∷◌, ◌++◌, map, get_or, drop, replicate, sym, refl, ap}
use Rattle.std.specs.List.{range_with_len}
use Rattle.layers.specs.declared.node.Node.{Node}
use Rattle.layers.specs.Net.{each_door}
use Rattle.layers.specs.Targets.{targets, with_targets, redirected, at_door}

each-cons : (f : ℕ → ℕ → ℕ) (j t : ℕ) (ts : List ℕ) → each_door f j (t ∷ ts) ≡ at_door f j t ∷ each_door f (suc j) ts
unfolding each_door
each-cons f j zero ts = refl
each-cons f j (suc b) ts = refl

-- the target by the door k + 1
abbrev pub by_door : {S V : Type 0} → (ℕ → ℕ → ℕ) → Node S V → ℕ → ℕ
by_door f x k = at_door f (k + 1) (get_or x.arcs.to k 0)

-- what a loop over the sixteen doors has written after k of them
abbrev pub written : (ℕ → ℕ) → ℕ → List ℕ
written f k = map f (range_with_len 0 k) ++ drop k (replicate {A = ℕ} 16 0)

pub redirect-made : {S V : Type 0} (f : ℕ → ℕ → ℕ) (x : Node S V) → with_targets x (written (by_door f x) 16) ≡ redirected f x
unfolding redirected targets
redirect-made f x = ap (with_targets x) (sym (simp each-cons))
