-- Tidying as the code does it. Nobody has to believe this page: the clauses `paths` and `words` of `tidy` say in Paths what it comes to.
-- A layer is w records, its nodes the places in use; a node's number is its place and one; the target 0 is no arc.
-- Marks and numbers stand in tables of 256 places, by a node's number.
use Rattle.std.specs.Prelude.{ℕ, zero, suc, ◌+◌, ◌-◌, Bool, true, false, if◌then◌else◌, not, List, [], ◌∷◌, ◌++◌, map, length, take, drop, replicate, fold, filter, ◌==◌, slice_index, slice_index_or, slice_set}
use Rattle.std.specs.List.{range_with_len}
use Rattle.layers.specs.declared.node.Label.{Label}
use Rattle.layers.specs.declared.node.Node.{Node}
use Rattle.layers.specs.Records.{nodes_in}
use Rattle.layers.specs.Targets.{targets, with_targets}
use Rattle.tidying.specs.Counted.{arcs_of}
use Rattle.tidying.specs.InUse.{on_nodes}

-- a record without arcs
abbrev pub bare_node : {S V : Type 0} → Label S V → Node S V
bare_node l = record { arcs = record { to = replicate 16 0 }; label = l }

-- whether a node has arcs
unfoldable pub lively : {S V : Type 0} → Node S V → Bool
unfolding arcs_of
lively x = not (arcs_of x == 0)

-- the marks m, and those of the targets ts
unfoldable pub marked : List Bool → List ℕ → List Bool
marked m ts = fold (λ m t. slice_set m t true) m ts

-- the targets of the nodes that are marked in bs
abbrev pub sent : {S V : Type 0} → List Bool → List (Node S V) → List ℕ
sent [] us = []
sent (b ∷ bs) [] = []
sent (b ∷ bs) (u ∷ us) = (if b then targets u else []) ++ sent bs us

-- the marks of the targets of those nodes us of a layer that have a mark
unfoldable pub reached_next : {S V : Type 0} → List Bool → List (Node S V) → List Bool
unfolding marked
reached_next from us = marked (replicate 256 false) (sent (drop 1 from) us)

-- a node with its targets numbered anew if it is reached, as `on` says, and else z
unfoldable pub renewed : {S V : Type 0} → Node S V → Bool → List ℕ → Node S V → Node S V
unfolding targets
renewed z on new x = if on then with_targets x (map (λ t. slice_index new t) (targets x)) else z

-- the same of the node at place a
abbrev pub renew_at : {S V : Type 0} → Node S V → List Bool → List ℕ → List (Node S V) → ℕ → Node S V
renew_at z from new us a = renewed z (slice_index_or from (a + 1) false) new (slice_index_or us a z)

-- the same of a layer
unfoldable pub renewals : {S V : Type 0} → Node S V → List Bool → List ℕ → List (Node S V) → List (Node S V)
unfolding renewed
renewals z from new us = map (renew_at z from new us) (range_with_len 0 (length us))

-- the nodes with arcs, moved together, and then places not in use
unfoldable pub together : {S V : Type 0} → Node S V → List (Node S V) → List (Node S V)
unfolding lively
together z us = filter lively us ++ replicate (length us - length (filter lively us)) z

-- the numbers `new`, of which `count` are given, and those of the nodes us at place a and on: each with arcs gets the next number
unfoldable pub numbered : {S V : Type 0} → List ℕ → ℕ → ℕ → List (Node S V) → List ℕ
unfolding lively
numbered new count a [] = new
numbered new count a (u ∷ us) =
    if lively u then numbered (slice_set new (a + 1) (count + 1)) (count + 1) (a + 1) us
    else numbered new count (a + 1) us

-- the new numbers of a layer: how many nodes up to it have arcs, 0 of a node that has none
unfoldable pub numbering : {S V : Type 0} → List (Node S V) → List ℕ
unfolding numbered
numbering us = numbered (replicate 256 0) 0 0 us

-- of the end
abbrev pub end_numbers : List ℕ
end_numbers = slice_set (replicate 256 0) 1 1

-- the new numbers of the first of r layers, of which the marked nodes are reached
unfoldable pub numbers : {S V : Type 0} → ℕ → Node S V → ℕ → List Bool → List (Node S V) → List ℕ
unfolding reached_next renewals numbering
numbers w z zero from xs = end_numbers
numbers w z (suc r) from xs =
    let us = nodes_in (take w xs) in
    numbering (renewals z from (numbers w z r (reached_next from us) (drop w xs)) us)

-- r layers of w records, tidied
unfoldable pub tidied : {S V : Type 0} → ℕ → Node S V → ℕ → List Bool → List (Node S V) → List (Node S V)
unfolding reached_next renewals together numbers
tidied w z zero from xs = xs
tidied w z (suc r) from xs =
    let next = reached_next from (nodes_in (take w xs)) in
    on_nodes (λ us. together z (renewals z from (numbers w z r next (drop w xs)) us)) (take w xs) ++ tidied w z r next (drop w xs)

-- the mark of the first node
abbrev pub first_mark : List Bool
first_mark = slice_set (replicate 256 false) 1 true
