-- Layers of arcs, and the paths along them.
-- A node is the list of its targets by door, 0 for none, suc b for the node at place b of the next layer: doors count from 1, places from 0.
-- Two doors, one node to a layer: ((1 ∷ 1 ∷ []) ∷ []) ∷ ((1 ∷ 1 ∷ []) ∷ []) ∷ [] is the net of the four paths 1 1, 1 2, 2 1 and 2 2.
use Rattle.std.specs.Prelude.{◌≡◌, ℕ, zero, suc, ◌+◌, ◌-◌, Bool, true, false, if◌then◌else◌, not, ◌&&◌, ◌||◌, List, [], ◌∷◌, length, ◌==◌, slice_index, slice_index_or}

-- f 0, f 1, .. , n of them
abbrev pub table : {A : Type 0} → ℕ → (ℕ → A) → List A
table zero f = []
table (suc n) f = f 0 ∷ table n (λ k. f (suc k))

-- the targets of a node by door
abbrev pub Outs : Type 0
Outs = List ℕ

-- the nodes of a layer, and all layers but the end
abbrev pub Layer : Type 0
Layer = List Outs

-- layer by layer
abbrev pub Net : Type 0
Net = List Layer

-- the node at place a; none is there past the last
abbrev pub node : Layer → ℕ → Outs
node L a = slice_index_or L a []

-- where the arc by a door leads
abbrev pub target : Outs → ℕ → ℕ
target nd zero = 0
target nd (suc k) = slice_index nd k

-- how many nodes the next layer has; after the last layer of arcs there is the end
abbrev pub width : Net → ℕ
width [] = 1
width (L ∷ Ls) = length L

-- w is read along a path from the node at place a to the end
abbrev pub PathFrom : Net → ℕ → List ℕ → Type 0
PathFrom [] a [] = a ≡ 0
PathFrom [] a (j ∷ w) = ⊥
PathFrom (L ∷ Ls) a [] = ⊥
PathFrom (L ∷ Ls) a (j ∷ w) = (b : ℕ) × (target (node L a) j ≡ suc b) × PathFrom Ls b w

-- whether it is, worked out arc by arc. Nobody has to believe it: by the contract of `Diagram::holds` it is yes exactly for
-- `PathFrom`
unfoldable pub is_path_from : Net → ℕ → List ℕ → Bool
is_path_from [] a [] = a == 0
is_path_from [] a (j ∷ w) = false
is_path_from (L ∷ Ls) a [] = false
is_path_from (L ∷ Ls) a (j ∷ w) = let t = target (node L a) j in not (t == 0) && is_path_from Ls (t - 1) w

-- each arc by door j from the node at place a to place b becomes f a j b
unfoldable pub each_door : (ℕ → ℕ → ℕ) → ℕ → Outs → Outs
each_door f j [] = []
each_door f j (zero ∷ ts) = zero ∷ each_door f (suc j) ts
each_door f j (suc b ∷ ts) = f j b ∷ each_door f (suc j) ts

-- so in each node, from the one at place a on
unfoldable pub each_node : (ℕ → ℕ → ℕ → ℕ) → ℕ → Layer → Layer
unfolding each_door
each_node f a [] = []
each_node f a (nd ∷ L) = each_door (f a) 1 nd ∷ each_node f (suc a) L

-- each arc of a layer from place a by door j to place b becomes f a j b, which is again 0 for none or suc of a place
unfoldable pub redirect : (ℕ → ℕ → ℕ → ℕ) → Layer → Layer
unfolding each_node
redirect f L = each_node f 0 L

-- how many arcs a node, a layer, a net has
unfoldable pub count_doors : Outs → ℕ
count_doors [] = 0
count_doors (zero ∷ ts) = count_doors ts
count_doors (suc b ∷ ts) = suc (count_doors ts)

-- those of all its nodes
unfoldable pub count_layer : Layer → ℕ
unfolding count_doors
count_layer [] = 0
count_layer (nd ∷ L) = count_doors nd + count_layer L

-- those of all its layers
unfoldable pub count_arcs : Net → ℕ
unfolding count_layer
count_arcs [] = 0
count_arcs (L ∷ Ls) = count_layer L + count_arcs Ls

-- every arc of a layer passes a test of source, door and target
unfoldable pub every_door : (ℕ → ℕ → Bool) → ℕ → Outs → Bool
every_door f j [] = true
every_door f j (zero ∷ ts) = every_door f (suc j) ts
every_door f j (suc b ∷ ts) = f j b && every_door f (suc j) ts

-- so of each node from place a on
unfoldable pub every_arc : (ℕ → ℕ → ℕ → Bool) → ℕ → Layer → Bool
unfolding every_door
every_arc f a [] = true
every_arc f a (nd ∷ L) = every_door (f a) 1 nd && every_arc f (suc a) L

-- ---- must: some path has the doors of gs, in this order, among its doors
-- what is left to find of gs after door j
abbrev pub still_sought : List ℕ → ℕ → List ℕ
still_sought [] j = []
still_sought (g ∷ gs) j = if g == j then gs else g ∷ gs

-- nothing is left to find
abbrev pub is_nil : List ℕ → Bool
is_nil [] = true
is_nil (g ∷ gs) = false

-- some arc of a node passes a test of door and target
unfoldable pub any_door : (ℕ → ℕ → Bool) → ℕ → Outs → Bool
any_door f j [] = false
any_door f j (zero ∷ ts) = any_door f (suc j) ts
any_door f j (suc b ∷ ts) = f j b || any_door f (suc j) ts

-- so from the node at place a of the first of these layers
unfoldable pub has_path_with : Net → ℕ → List ℕ → Bool
unfolding any_door
has_path_with [] a gs = a == 0 && is_nil gs
has_path_with (L ∷ Ls) a gs = any_door (λ j b. has_path_with Ls b (still_sought gs j)) 1 (node L a)
