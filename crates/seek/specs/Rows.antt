-- What is seen from the nodes of a layer, as the code works it out from the layer below. Nobody has to believe it: the contracts of
-- `must` and `musts` say what it comes to. A row has it by target number: 0 for no node, suc b for the node at place b.
use Rattle.std.specs.Prelude.{ℕ, zero, suc, ◌+◌, ◌*◌, Bool, true, false, not, ◌&&◌, ◌||◌, List, [], ◌∷◌, map, replicate, ◌==◌, nat_le, slice_index, slice_index_or}
use Rattle.doors.specs.Orders.{is_door}
use Rattle.doors.specs.Sets.{has}
use Rattle.layers.specs.declared.node.Node.{Node}
use Rattle.layers.specs.Net.{Net, has_path_with}
use Rattle.layers.specs.Records.{nodes_in}
use Rattle.seek.specs.declared.onward.Onward.{Onward}
use Rattle.seek.specs.declared.seen.Seen.{Seen}

-- a list of that length has room for a diagram of n doors and width w: w places to each layer, and the end
abbrev pub fits : ℕ → ℕ → ℕ → Bool
fits n w len = nat_le 1 w && (nat_le w 128 && (nat_le n 16 && nat_le (n * w + 1) len))

-- nothing
abbrev pub none : Seen
none = record { ends = false; one = false; both = false }

-- from the end
abbrev pub at_end : Seen
at_end = record { ends = true; one = false; both = false }

-- along the arcs Ls: a path; one with the door i; one with the door j and the door i after it
abbrev pub seen_from : ℕ → ℕ → Net → ℕ → Seen
seen_from i j Ls zero = none
seen_from i j Ls (suc b) = record { ends = has_path_with Ls b []; one = has_path_with Ls b (i ∷ []); both = has_path_with Ls b (j ∷ i ∷ []) }

-- nothing, of all doors at once
abbrev pub nothing : Onward
nothing = record { ends = false; some = 0; after = replicate 17 0 }

-- what is seen of all doors at once, looked at for i and j
abbrev pub view : ℕ → ℕ → Onward → Seen
view i j s = record { ends = s.ends; one = has s.some i; both = has (slice_index s.after j) i }

-- a row of all doors, by places, looked at for i and j
abbrev pub views : ℕ → ℕ → List Onward → List Seen
views i j row = none ∷ map (view i j) row

-- over an arc by the door d, to a node from which s is seen
abbrev pub through : ℕ → ℕ → ℕ → Seen → Seen
through i j d s = record {
  ends = s.ends;
  one = s.one || (i == d && s.ends);
  both = s.both || (j == d && s.one);
}

-- one way or the other
abbrev pub either : Seen → Seen → Seen
either a b = record { ends = a.ends || b.ends; one = a.one || b.one; both = a.both || b.both }

-- over the arcs of u by its first k doors, from the row of the layer below
abbrev pub by_first : {S V : Type 0} → ℕ → ℕ → List Seen → Node S V → ℕ → Seen
by_first i j below u zero = none
by_first i j below u (suc k) =
    either (by_first i j below u k) (through i j (k + 1) (slice_index_or below (slice_index u.arcs.to k) none))

-- the row of the layer us, where f says what is seen from one node; the nodes stand first, and nothing is seen from the places after them
abbrev pub row_of : {S V : Type 0} → (Node S V → Seen) → List (Node S V) → List Seen
row_of f us = none ∷ map f (nodes_in us)

-- j comes behind i, of n doors, where on no path from the first node i comes after j; `after` has for each door those after it on some
abbrev pub is_behind : ℕ → List ℕ → ℕ → ℕ → Bool
is_behind n after i j = is_door n i && (is_door n j && (not (i == j) && not (has (slice_index after j) i)))
