-- The arcs of a record, by the sixteen doors: the target 0 is no arc, and suc b the record at place b of the next layer.
use Rattle.std.specs.Prelude.{ℕ, zero, suc, List, map, slice_index}
use Rattle.std.specs.List.{range_with_len}
use Rattle.layers.specs.declared.node.Node.{Node}
use Rattle.layers.specs.Net.{each_door}

unfoldable pub targets : {S V : Type 0} → Node S V → List ℕ
targets x = map (λ k. slice_index x.arcs.to k) (range_with_len 0 16)

-- the record with other arcs
abbrev pub with_targets : {S V : Type 0} → Node S V → List ℕ → Node S V
with_targets x ts = record { arcs = record { to = ts }; label = x.label }

-- the record, with each arc by door j to place b made f j b
unfoldable pub redirected : {S V : Type 0} → (ℕ → ℕ → ℕ) → Node S V → Node S V
unfolding targets each_door
redirected f x = with_targets x (each_door f 1 (targets x))

-- the same of one target
abbrev pub at_door : (ℕ → ℕ → ℕ) → ℕ → ℕ → ℕ
at_door f j zero = zero
at_door f j (suc b) = f j b
