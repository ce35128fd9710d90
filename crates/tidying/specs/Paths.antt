-- Tidying in the subject's words: a list of doors leads from a node to a node. What `KeptExactly` and `SamePaths` say is what tidying comes to.
-- Only `new_number` looks into Tidied: it is the number that a node has after tidying. A layer is w records, and the end follows the last one.
-- The nodes of a layer are its places in use, which stand first. Nodes and doors count from 1.
use Rattle.std.specs.Prelude.{◌≡◌, ℕ, zero, suc, ◌-◌, ◌<◌, Bool, ◌≢◌, List, [], ◌∷◌, length, take, drop, slice_index, slice_index_or}
use Rattle.layers.specs.declared.node.Node.{Node}
use Rattle.layers.specs.Records.{nodes_in}
use Rattle.layers.specs.Targets.{targets}
use Rattle.tidying.specs.Tidied.{reached_next, numbers, first_mark}

-- the target of the arc of node a by door j; 0 if there is none
unfoldable pub arc : {S V : Type 0} → Node S V → List (Node S V) → ℕ → ℕ → ℕ
unfolding targets
arc z us zero j = 0
arc z us (suc a) zero = 0
arc z us (suc a) (suc k) = slice_index (targets (slice_index_or us a z)) k

-- the doors ds lead from node a of the first layer to node b of the layer that they reach
abbrev pub Leads : {S V : Type 0} → ℕ → Node S V → List (Node S V) → ℕ → List ℕ → ℕ → Type 0
Leads w z xs a [] b = a ≡ b
Leads w z xs a (j ∷ ds) b = (t : ℕ) × (arc z (nodes_in (take w xs)) a j ≡ suc t) × Leads w z (drop w xs) (suc t) ds b

-- the layers from the i-th on
abbrev pub from_layer : {X : Type 0} → ℕ → ℕ → List X → List X
from_layer w zero xs = xs
from_layer w (suc i) xs = from_layer w i (drop w xs)

-- the marks of layer i, out of those of the first
unfoldable pub reached : {S V : Type 0} → ℕ → Node S V → ℕ → List Bool → List (Node S V) → List Bool
unfolding reached_next
reached w z zero from xs = from
reached w z (suc i) from xs = reached w z i (reached_next from (nodes_in (take w xs))) (drop w xs)

-- node a of layer i lies on a path of n doors from the first node to the end
abbrev pub OnPath : {S V : Type 0} → ℕ → Node S V → ℕ → List (Node S V) → ℕ → ℕ → Type 0
OnPath w z n xs i a =
    ((ds : List ℕ) × (length ds ≡ i) × Leads w z xs 1 ds a)
    × ((ds : List ℕ) × (length ds ≡ n - i) × Leads w z (from_layer w i xs) a ds 1)

-- the new number of node a of layer i when n layers are tidied, 0 if it goes
abbrev pub new_number : {S V : Type 0} → ℕ → Node S V → ℕ → List (Node S V) → ℕ → ℕ → ℕ
new_number w z n xs i a = slice_index (numbers w z (n - i) (reached w z i first_mark xs) (from_layer w i xs)) a

-- the nodes on a path, and no others, stay
abbrev pub KeptExactly : {S V : Type 0} → ℕ → Node S V → ℕ → List (Node S V) → Type 0
KeptExactly w z n xs = (i a : ℕ) → i < n →
    (new_number w z n xs i (suc a) ≢ 0 → OnPath w z n xs i (suc a))
    × (OnPath w z n xs i (suc a) → new_number w z n xs i (suc a) ≢ 0)

-- the paths stay, no more and no fewer
abbrev pub SamePaths : {S V : Type 0} → ℕ → Node S V → ℕ → List (Node S V) → List (Node S V) → Type 0
SamePaths w z n xs ys = (ds : List ℕ) → length ds ≡ n →
    (Leads w z xs 1 ds 1 → Leads w z ys 1 ds 1) × (Leads w z ys 1 ds 1 → Leads w z xs 1 ds 1)
