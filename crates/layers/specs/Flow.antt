-- What flows along the arcs of layers: downward what a source sends to its targets, upward what climbs from a target to its sources.
use Rattle.std.specs.Prelude.{ℕ, zero, suc, Bool, true, false, List, [], ◌∷◌, ◌++◌, map, Some, None, fold, Option, ◌==◌, slice_index_or}
use Rattle.layers.specs.Net.{table, Outs, Layer, Net, width}

module _ {A : Type 0} where
  -- downward: what arrives at the node at place b, by source, then by door
  abbrev pub put : Bool → A → List A → List A
  put true x r = x ∷ r
  put false x r = r

  -- those from one source with the label l, by the doors from j on
  unfoldable pub arrivals_by_door : (A → ℕ → A) → ℕ → A → ℕ → Outs → List A
  arrivals_by_door arrive b l j [] = []
  arrivals_by_door arrive b l j (t ∷ ts) = put (t == suc b) (arrive l j) (arrivals_by_door arrive b l (suc j) ts)

  -- those from all sources, by their labels; a source with none sends nothing
  unfoldable pub arrivals_at : (A → ℕ → A) → ℕ → List (Option A) → Layer → List A
  unfolding arrivals_by_door
  arrivals_at arrive b [] L = []
  arrivals_at arrive b (o ∷ labs) [] = []
  arrivals_at arrive b (None ∷ labs) (nd ∷ L) = arrivals_at arrive b labs L
  arrivals_at arrive b (Some l ∷ labs) (nd ∷ L) = arrivals_by_door arrive b l 1 nd ++ arrivals_at arrive b labs L

  -- what arrives, merged in this order; none where nothing arrives
  unfoldable pub gather : (A → A → A) → List A → Option A
  gather merge [] = None
  gather merge (x ∷ xs) = Some (fold merge x xs)

  -- the labels of the next layer, of `count` nodes
  unfoldable pub next : (A → ℕ → A) → (A → A → A) → List (Option A) → Layer → ℕ → List (Option A)
  unfolding arrivals_at gather
  next arrive merge labs L count = table count (λ b. gather merge (arrivals_at arrive b labs L))

  -- upward: what climbs to a node from its targets, by door
  -- the label of the target, if there is one
  abbrev pub read : List (Option A) → ℕ → Option A
  read us zero = None
  read us (suc b) = slice_index_or us b None

  -- one more climbs over the arc by door j, if its target has a label
  abbrev pub cons_if_some : (A → ℕ → A) → ℕ → Option A → List A → List A
  cons_if_some climb j None r = r
  cons_if_some climb j (Some l) r = climb l j ∷ r

  -- what climbs to a node over its arcs, by the doors from j on
  unfoldable pub climbs_of : (A → ℕ → A) → List (Option A) → ℕ → Outs → List A
  climbs_of climb us j [] = []
  climbs_of climb us j (t ∷ ts) = cons_if_some climb j (read us t) (climbs_of climb us (suc j) ts)

  -- the labels of the first of these layers, worked out from the end, whose label is top
  unfoldable pub up : (A → ℕ → A) → (A → A → A) → A → Net → List (Option A)
  unfolding climbs_of gather
  up climb merge top [] = Some top ∷ []
  up climb merge top (L ∷ Ls) = let us = up climb merge top Ls in map (λ nd. gather merge (climbs_of climb us 1 nd)) L

  -- the label at the end
  unfoldable pub end_label : (A → ℕ → A) → (A → A → A) → List (Option A) → Net → Option A
  unfolding next
  end_label arrive merge labs [] = slice_index_or labs 0 None
  end_label arrive merge labs (L ∷ Ls) = end_label arrive merge (next arrive merge labs L (width Ls)) Ls
