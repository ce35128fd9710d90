use Rattle.std.proofs.Common.{◌≡◌, ◌*◌, ◌≤◌, List, ◌++◌, length, take, drop}
use Rattle.std.specs.List.{All}
use Rattle.split.specs.Listed.{Told, told_from, IsTold}
use Rattle.split.proofs.listing.list_layer.Given as goal

abbrev pub invariant-loop-a : goal.invariant-loop-a
invariant-loop-a g l =
    (l.list.many ≤ l.a * 16) × All (λ u. length u.arcs.to ≡ 16) (take l.a l.us)
    × ((xs : List (Told g.row.S.Denot g.row.V.Denot)) × IsTold l.us l.list xs × (xs ++ told_from l.a (drop l.a l.us) ≡ told_from 0 l.us))
