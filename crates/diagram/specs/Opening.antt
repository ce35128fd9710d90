-- How a diagram's arcs are laid when it is opened, layer by layer.
-- Nobody has to believe these steps: `records` of `Diagram::open` says what they come to.
use Rattle.std.specs.Prelude.{ℕ, zero, suc, List, [], ◌∷◌, ◌++◌, map, take, drop}
use Rattle.layers.specs.declared.node.Arcs.{Arcs}
use Rattle.layers.specs.declared.node.Node.{Node}
use Rattle.layers.specs.Net.{table}
use Rattle.layers.specs.Records.{padded_targets}

-- an arc for each of n doors, to node 1
abbrev pub every_door : ℕ → Arcs
every_door n = record { to = padded_targets (table n (λ k. 1)) }

abbrev pub no_door : Arcs
no_door = record { to = padded_targets [] }

module _ {S V : Type 0} where
  -- a record with other arcs
  abbrev pub with_arcs : Arcs → Node S V → Node S V
  with_arcs a x = record { arcs = a; label = x.label }

  -- a layer of which the first node alone has arcs
  abbrev pub first_arced : Arcs → List (Node S V) → List (Node S V)
  first_arced a [] = []
  first_arced a (x ∷ xs) = with_arcs a x ∷ map (with_arcs no_door) xs

  -- so k layers of w places, and then the end, which has none
  abbrev pub arced : Arcs → ℕ → ℕ → List (Node S V) → List (Node S V)
  arced a w zero xs = first_arced no_door (take 1 xs) ++ drop 1 xs
  arced a w (suc k) xs = first_arced a (take w xs) ++ arced a w k (drop w xs)
