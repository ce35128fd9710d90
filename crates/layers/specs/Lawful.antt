-- What holds of the arcs of every diagram. Every node lies on a path: it has an in-arc and an out-arc, and no arc leads out of the next layer.
use Rattle.std.specs.Prelude.{◌≡◌, ℕ, suc, ◌<◌, ◌≤◌, [], ◌∷◌, length}
use Rattle.layers.specs.Net.{Layer, Net, node, target, width}

-- no arc of the layer leads past the m nodes of the next
abbrev pub IsRanged : Layer → ℕ → Type 0
IsRanged L m = (a j b : ℕ) → target (node L a) j ≡ suc b → b < m

-- each of those has an in-arc
abbrev pub IsFed : Layer → ℕ → Type 0
IsFed L m = (b : ℕ) → b < m → (a : ℕ) × (j : ℕ) × (target (node L a) j ≡ suc b)

-- each node of the layer has an out-arc
abbrev pub IsLed : Layer → Type 0
IsLed L = (a : ℕ) → a < length L → (j : ℕ) × (b : ℕ) × (target (node L a) j ≡ suc b)

-- all three, layer by layer; the first node may have no arc
abbrev pub IsTied : Net → Type 0
IsTied [] = Unit {0}
IsTied (L ∷ []) = IsRanged L 1
IsTied (L ∷ M ∷ Ls) = IsRanged L (length M) × IsFed L (length M) × IsLed M × IsTied (M ∷ Ls)

-- layers 1 and on have at most W nodes
abbrev pub IsRoomy : ℕ → Net → Type 0
IsRoomy W [] = Unit {0}
IsRoomy W (L ∷ Ls) = (length L ≤ W) × IsRoomy W Ls

-- each node has n targets, one for each door
abbrev pub IsEven : ℕ → Net → Type 0
IsEven n [] = Unit {0}
IsEven n (L ∷ Ls) = ((a : ℕ) → a < length L → length (node L a) ≡ n) × IsEven n Ls

-- the arcs that a diagram of n doors and width W may have: n layers, one first node, at most W nodes to a layer, each on a path
pub record IsLawful (n W : ℕ) (Ls : Net) : Type 0 where
  pub deep : length Ls ≡ n
  pub one_first : width Ls ≡ 1
  pub even : IsEven n Ls
  pub roomy : IsRoomy W Ls
  pub tied : IsTied Ls
