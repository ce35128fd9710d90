use Rattle.std.proofs.Common.{◌≡◌, ◌+◌, ◌<◌, ◌≤◌, List, ◌++◌, length, get_or, drop}
use Rattle.layers.specs.declared.node.Node.{Node}
use Rattle.split.specs.Listed.{Told, IsTold, told_doors}
use Rattle.split.proofs.listing.list_node.Given as goal

abbrev pub invariant-loop-k : goal.invariant-loop-k
invariant-loop-k g l =
    (length l.list.arcs ≡ 2048) × (length l.list.to ≡ 2048) × (l.list.many ≤ l.initial.list.many + l.k)
    × ((us : List (Node g.row.S.Denot g.row.V.Denot)) (told : List (Told g.row.S.Denot g.row.V.Denot)) → l.place < length us → ((z : Node g.row.S.Denot g.row.V.Denot) → (get_or us l.place z).label ≡ l.u.label) → IsTold us l.initial.list told
    → (xs : List (Told g.row.S.Denot g.row.V.Denot)) × IsTold us l.list xs × (xs ++ told_doors l.place l.u.label l.k (drop l.k l.u.arcs.to) ≡ told ++ told_doors l.place l.u.label 0 l.u.arcs.to))
