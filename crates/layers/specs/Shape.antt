-- What arcs alone decide of the records of a diagram of n doors and width W.
use Rattle.std.specs.Prelude.{◌≡◌, ℕ, ◌+◌, ◌-◌, ◌*◌, ◌≤◌, min, List, [], map, length, take, slice_index, slice_index_or}
use Rattle.round.specs.Clock.{latest_finish}
use Rattle.layers.specs.declared.node.Arcs.{Arcs}
use Rattle.layers.specs.declared.node.Node.{Node}
use Rattle.layers.specs.Net.{width, count_layer}
use Rattle.layers.specs.Tidy.{tidied_arcs}
use Rattle.layers.specs.Records.{arcs_read, laid_arcs}
use Rattle.layers.specs.Calls.{arcs, layer}

-- the targets by door, place by place
abbrev pub targets_of : List Arcs → List (List ℕ)
targets_of = map (λ a. a.to)

module _ {S V : Type 0} (n W : ℕ) (xs : List (Node S V)) where
  -- no place has arcs but those that are read, by the doors of the round
  abbrev pub IsWritten : Type 0
  IsWritten = targets_of (arcs_read (take (n * W + 1) xs)) ≡ targets_of (laid_arcs W (arcs n W xs))

  -- tidying would alter nothing: each node lies on a path from the first to the end, and no arc leads elsewhere
  abbrev pub StaysTidy : Type 0
  StaysTidy = tidied_arcs (arcs n W xs) ≡ arcs n W xs

  -- layer 0 has one node
  abbrev pub HasOneFirst : Type 0
  HasOneFirst = width (arcs n W xs) ≡ 1

  -- if an arc leads to the end, the end's place is in use
  abbrev pub HasEnd : Type 0
  HasEnd = min 1 (count_layer (slice_index_or (arcs n W xs) (n - 1) [])) ≤ length (layer n W n xs)

  -- all four: the records are those of a diagram, whatever rule and tally wrote their labels
  pub record IsShaped : Type 0 where
    pub written : IsWritten
    pub tidy : StaysTidy
    pub first : HasOneFirst
    pub ended : HasEnd

  -- no finish of the layers before the end is above what the clock allows after 15 doors
  abbrev pub IsTimely : Type 0
  IsTimely = (k : ℕ) → slice_index (map (λ x. x.label.down.finish) (take (n * W) xs)) k ≤ latest_finish 15
