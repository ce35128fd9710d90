-- What tidying leaves of any layers of arcs: the same paths, and exactly the nodes on a path, in their order.
-- Layers and places in a layer count from 0.
use Rattle.std.specs.Prelude.{◌≡◌, ℕ, zero, suc, ◌<◌, ◌⊎◌, ◌↔◌, List, [], length, slice_index_or, ⊤}
use Rattle.layers.specs.Net.{Outs, Layer, Net, node, target, PathFrom}
use Rattle.layers.specs.Tidy.{tidied_arcs}
use Rattle.layers.specs.LabelLaws.{LeadsTo, LeadsOn}

-- the nodes of layer i
abbrev pub layer_of : Net → ℕ → Layer
layer_of D i = slice_index_or D i []

-- place b of layer i lies on a path: one leads to it from the first node, and one on from it to the end
pub record IsOnPath (D : Net) (i b : ℕ) : Type 0 where
  pub to : (w : List ℕ) × LeadsTo D i b w
  pub on : (w : List ℕ) × LeadsOn D i b w

-- which places stay: in layer 0 all, and in the others those on a path
abbrev pub Stays : Net → ℕ → ℕ → Type 0
Stays D zero b = ⊤
Stays D (suc i) b = IsOnPath D (suc i) b

-- P is so of exactly k of the places below b
abbrev pub CountBelow : (ℕ → Type 0) → ℕ → ℕ → Type 0
CountBelow P zero k = k ≡ 0
CountBelow P (suc b) zero = ¬ (P b) × CountBelow P b zero
CountBelow P (suc b) (suc k) = (P b × CountBelow P b k) ⊎ (¬ (P b) × CountBelow P b (suc k))

-- place b of layer i stays and becomes place k: so many of the places before it stay
pub record Becomes (D : Net) (i b k : ℕ) : Type 0 where
  pub stays : Stays D i b
  pub before : CountBelow (Stays D i) b k

-- the targets by door of a node of layer i, before and after: as many doors, and an arc to place c exactly if by the same door one led
-- to a place of the next layer that becomes c
pub record IsRenumbered (D : Net) (i : ℕ) (old new : Outs) : Type 0 where
  pub doors : length new ≡ length old
  pub arcs : (j c : ℕ) → (target new j ≡ suc c) ↔ ((b : ℕ) × (target old j ≡ suc b) × Becomes D (suc i) b c)

-- E is what is left of D when only the nodes on a path and the arcs between them stay, numbered anew as they stood
pub record IsTidied (D E : Net) : Type 0 where
  -- the paths from the first node to the end are the same
  pub paths : (w : List ℕ) → PathFrom E 0 w ↔ PathFrom D 0 w
  -- there are as many layers
  pub layers : length E ≡ length D
  -- a layer has as many nodes as stay
  pub nodes : (i : ℕ) → CountBelow (Stays D i) (length (layer_of D i)) (length (layer_of E i))
  -- each that stays has its place by their order, and of its arcs those to nodes that stay, renumbered alike
  pub node_at : (i b : ℕ) → b < length (layer_of D i) → Stays D i b
      → (k : ℕ) × Becomes D i b k × IsRenumbered D i (node (layer_of D i) b) (node (layer_of E i) k)

-- this is what tidying leaves of any layers of arcs, and these facts are so of nothing else
abbrev pub TidyMeans : Type 0
TidyMeans = (D E : Net) → IsTidied D E ↔ (E ≡ tidied_arcs D)

-- nothing in D is to go: in every layer but layer 0 each node lies on a path, and each arc leads to a place on a path
pub record IsTidy (D : Net) : Type 0 where
  pub nodes : (i b : ℕ) → b < length (layer_of D (suc i)) → IsOnPath D (suc i) b
  pub arcs : (i a j b : ℕ) → target (node (layer_of D i) a) j ≡ suc b → IsOnPath D (suc i) b

-- exactly then tidying alters nothing
abbrev pub TidyStays : Type 0
TidyStays = (D : Net) → IsTidy D ↔ (tidied_arcs D ≡ D)
