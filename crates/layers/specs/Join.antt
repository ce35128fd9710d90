-- Two nodes of a layer are made one.
use Rattle.std.specs.Prelude.{ℕ, zero, suc, ◌-◌, Bool, false, if◌then◌else◌, not, ◌||◌, List, [], ◌∷◌, ◌==◌, nat_lt, slice_set}
use Rattle.layers.specs.Net.{Outs, Net, node, redirect}

-- of two targets by one door, the one that there is
abbrev pub either_target : ℕ → ℕ → ℕ
either_target zero t = t
either_target (suc s) t = suc s

-- the out-arcs of both nodes
unfoldable pub both_out : Outs → Outs → Outs
both_out [] ts = ts
both_out (s ∷ ss) [] = s ∷ ss
both_out (s ∷ ss) (t ∷ ts) = either_target s t ∷ both_out ss ts

-- two arcs by one door lead to two nodes
abbrev pub targets_differ : ℕ → ℕ → Bool
targets_differ zero t = false
targets_differ (suc s) zero = false
targets_differ (suc s) (suc t) = not (s == t)

-- by some door they do
unfoldable pub clash : Outs → Outs → Bool
clash [] ts = false
clash (s ∷ ss) [] = false
clash (s ∷ ss) (t ∷ ts) = targets_differ s t || clash ss ts

-- a list without the item at place i
unfoldable pub without_place : {A : Type 0} → ℕ → List A → List A
without_place i [] = []
without_place zero (x ∷ xs) = xs
without_place (suc i) (x ∷ xs) = x ∷ without_place i xs

-- the place that b becomes when hi goes into lo
unfoldable pub place_after_join : ℕ → ℕ → ℕ → ℕ
place_after_join lo hi b = if b == hi then lo else if nat_lt hi b then b - 1 else b

-- the nodes at places lo and hi of layer d + 1 are one, at lo
unfoldable pub joined_arcs : ℕ → ℕ → ℕ → Net → Net
unfolding redirect place_after_join both_out without_place
joined_arcs d lo hi [] = []
joined_arcs zero lo hi (L ∷ []) = L ∷ []
joined_arcs zero lo hi (L ∷ M ∷ Ls) = redirect (λ a j b. suc (place_after_join lo hi b)) L ∷ without_place hi (slice_set M lo (both_out (node M lo) (node M hi))) ∷ Ls
joined_arcs (suc d) lo hi (L ∷ Ls) = L ∷ joined_arcs d lo hi Ls
