-- Relabelling as the code does it, in two passes over the records of any list: so many records to a layer, 16 doors to a record.
-- Nobody has to believe these steps: on the arcs of a diagram `labelled` of `relabel` says what they come to.
use Rattle.std.specs.Prelude.{◌≡◌, ℕ, zero, suc, ◌+◌, ◌-◌, ◌*◌, ◌<◌, ◌≤◌, Bool, true, false, not, if◌then◌else◌, ◌&&◌, List, [], ◌∷◌, ◌++◌, map, length, take, drop, replicate, Some, None, fold, Option, ◌==◌, bit_or, nat_le, ℤ, pos, ◌-ℤ◌, slice_index, slice_index_or, slice_set}
use Rattle.std.specs.Int.{w32, int_min, saturate_signed}
use Rattle.std.specs.List.{range_with_len, flat_map, filter}
use Rattle.doors.specs.Sets.{has}
use Rattle.round.specs.Clock.{door, latest_finish}
use Rattle.round.specs.declared.table.Round.{Round}
use Rattle.rules.specs.Rules.{RuleSense}
use Rattle.tallies.specs.Tallies.{TallySense}
use Rattle.layers.specs.declared.node.Node.{Node}
use Rattle.layers.specs.declared.node.Label.{Label}
use Rattle.layers.specs.declared.node.Down.{Down}
use Rattle.layers.specs.declared.node.Up.{Up}
use Rattle.layers.specs.Settings.{Setting}
use Rattle.layers.specs.Calls.{records_with}
use Rattle.layers.specs.Net.{Net}
use Rattle.layers.specs.Records.{is_used, nodes_in}
use Rattle.layers.specs.Labels.{bit_of, leg_step, leg, arrival_over, merge, first_label, blank_label, merge_up, end_up, no_up}

-- ---- the doors of a record
-- the places below 16 of a list of targets that are not 0, in order: the doors, less one, that have an arc
abbrev pub doors_out : List ℕ → List ℕ
doors_out to = filter (λ k. not (slice_index to k == 0)) (range_with_len 0 16)

-- ---- parts of the list
-- `count` records from `at` on
abbrev pub part : {X : Type 0} → ℕ → ℕ → List X → List X
part at count xs = take count (drop at xs)

-- ---- a record with other labels
abbrev pub with_down : {S V : Type 0} → Node S V → Down S V → Node S V
with_down x l = record { arcs = x.arcs; label = record { down = l; up = x.label.up } }

abbrev pub with_up : {S V : Type 0} → Node S V → Up → Node S V
with_up x u = record { arcs = x.arcs; label = record { down = x.label.down; up = u } }

-- f of the nodes of a layer, which stand first; the places after them stay
abbrev pub renewed : {S V : Type 0} → (Node S V → Node S V) → List (Node S V) → List (Node S V)
renewed f [] = []
renewed f (x ∷ xs) = if is_used x then f x ∷ renewed f xs else x ∷ xs

-- the record is in use, with a finish that the clock allows before the end
abbrev pub is_source : {S V : Type 0} → Node S V → Bool
is_source x = is_used x && nat_le x.label.down.finish (latest_finish 15)

-- those of a layer, which stand first
abbrev pub sources : {S V : Type 0} → List (Node S V) → List (Node S V)
sources [] = []
sources (x ∷ xs) = if is_source x then x ∷ sources xs else []

-- no finish of the node is above m
abbrev pub Early : {S V : Type 0} → ℕ → Node S V → Type 0
Early m u = u.label.down.finish ≤ m

-- the least drive to j from a member of the set m other than j, of the places below i
abbrev pub nearest_of : Round → ℕ → ℕ → ℕ → Option ℕ
nearest_of r m j i = fold (leg_step r m j) None (range_with_len 0 i)

-- none of the places from a on below b is in the set m
abbrev pub NoneBetween : ℕ → ℕ → ℕ → Type 0
NoneBetween m a b = (i : ℕ) → a ≤ i → i < b → has m i ≡ false

-- i is the first of the places from a to n that is in the set m
pub record IsFirstOf (m a n i : ℕ) : Type 0 where
  pub from : a ≤ i
  pub to : i ≤ n
  pub member : has m i ≡ true
  pub none : NoneBetween m a i

module _ {S V : Type 0} (rule : RuleSense S) (tally : TallySense V) where
  -- a record of which nothing is known
  abbrev pub blank_node : Node S V
  blank_node = record { arcs = record { to = replicate 16 0 }; label = record { down = blank_label rule tally; up = no_up } }

  -- ---- down: what a node gathers
  -- what a list of arrivals comes to
  unfoldable pub gathered : List (Down S V) → Down S V
  unfolding merge
  gathered [] = blank_label rule tally
  gathered (x ∷ xs) = fold (merge rule tally) x xs

  abbrev pub cleared : Node S V → Node S V
  cleared v = with_down v (blank_label rule tally)

  -- with a blank label
  abbrev pub unlabelled : Node S V → Node S V
  unlabelled v = record { arcs = v.arcs; label = record { down = blank_label rule tally; up = no_up } }

  -- the first node has its label
  abbrev pub begun : List (Node S V) → List (Node S V)
  begun [] = []
  begun (u ∷ us) = with_down u (first_label rule tally) ∷ us

  -- one arrival after another, each added to its target
  unfoldable pub taken : Down S V → Down S V → Down S V
  unfolding merge
  taken got x = if got.lasts == 0 then x else merge rule tally got x

  unfoldable pub landed : List (Node S V) → ℕ → Down S V → List (Node S V)
  unfolding taken
  landed vs b x = slice_set vs b (with_down (slice_index_or vs b blank_node) (taken (slice_index_or vs b blank_node).label.down x))

  -- at the target t; 0 is none, and past the last too
  unfoldable pub hit : List (Node S V) → ℕ → Down S V → List (Node S V)
  unfolding landed
  hit vs t x = if t == 0 then vs else landed vs (t - 1) x

module _ {S V : Type 0} (by : Setting S V) where
  -- the arrival over one door, if its arc goes to the target t
  unfoldable pub by_door : ℕ → Node S V → ℕ → List (Down S V)
  unfolding arrival_over
  by_door t u k = if slice_index u.arcs.to k == t then arrival_over by u.label.down (k + 1) ∷ [] else []

  -- the arrivals from one record, by door; one that is not in use has none
  unfoldable pub from_node : ℕ → Node S V → List (Down S V)
  unfolding by_door
  from_node t u = if u.label.down.lasts == 0 then [] else flat_map (by_door t u) (range_with_len 0 16)

  -- the arrivals at the target t out of the records us, by source number, then by door
  abbrev pub arrivals : ℕ → List (Node S V) → List (Down S V)
  arrivals t us = flat_map (from_node t) us

  -- record b of the layer vs, with the label that it gathers out of the nodes of the layer us before it
  unfoldable pub labelled : List (Node S V) → List (Node S V) → ℕ → Node S V
  unfolding gathered from_node
  labelled us vs b = with_down (slice_index_or vs b (blank_node by.rule by.tally)) (gathered by.rule by.tally (arrivals (b + 1) (nodes_in us)))

  unfoldable pub next_layer : List (Node S V) → List (Node S V) → List (Node S V)
  unfolding labelled
  next_layer us vs = map (labelled us vs) (range_with_len 0 (length vs))

  -- over the door k + 1 of u
  unfoldable pub crossed : Node S V → List (Node S V) → ℕ → List (Node S V)
  unfolding hit arrival_over
  crossed u vs k = hit by.rule by.tally vs (slice_index u.arcs.to k) (arrival_over by u.label.down (k + 1))

  -- over all doors of u
  unfoldable pub spread : List (Node S V) → Node S V → List (Node S V)
  unfolding crossed
  spread vs u = if u.label.down.lasts == 0 then vs else fold (crossed u) vs (range_with_len 0 16)

  -- over all doors of all nodes of the layer us
  unfoldable pub crossed_all : List (Node S V) → List (Node S V) → List (Node S V)
  unfolding spread
  crossed_all us vs = fold spread vs (sources us)

  -- the layer vs anew, from the nodes of the layer us before it
  unfoldable pub next_renewed : List (Node S V) → List (Node S V) → List (Node S V)
  unfolding crossed_all
  next_renewed us vs = crossed_all us (renewed (cleared by.rule by.tally) vs)

  -- the end anew
  unfoldable pub end_renewed : List (Node S V) → List (Node S V) → List (Node S V)
  unfolding crossed_all
  end_renewed us vs = crossed_all us (map (cleared by.rule by.tally) (take 1 vs)) ++ drop 1 vs

  -- the labels after the layer in front anew, with so many layers between it and the end
  unfoldable pub renewed_after : ℕ → List (Node S V) → List (Node S V)
  unfolding next_renewed end_renewed
  renewed_after zero xs = take by.width xs ++ end_renewed (take by.width xs) (drop by.width xs)
  renewed_after (suc k) xs = let rest = drop by.width xs in take by.width xs ++ renewed_after k (next_renewed (take by.width xs) (take by.width rest) ++ drop by.width rest)

-- ---- up
-- the record with the number t, if there is one
abbrev pub numbered : {X : Type 0} → ℕ → List X → List X
numbered t vs = if t == 0 then [] else take 1 (drop (t - 1) vs)

-- the last minute to leave a node over an arc by door j with a leg of g minutes, where t is that to leave its target; t may be any
-- number of 32 bits, and the minute is held in those
unfoldable pub held_late : Round → ℕ → ℤ → ℕ → ℤ
held_late r g t j = saturate_signed w32 (int_min (pos (door r j).closes) t -ℤ pos ((door r j).work + g))

-- over an arc by door j with a leg of g minutes to a node with these
abbrev pub climb_held : Round → ℕ → Up → ℕ → Up
climb_held r g u j = record { allup = bit_or u.allup (bit_of j); someup = bit_or u.someup (bit_of j); late = held_late r g u.late j }

-- what a list of those comes to
unfoldable pub gathered_up : List Up → Up
gathered_up [] = no_up
gathered_up (x ∷ xs) = fold merge_up x xs

-- the end: an empty diagram has none
abbrev pub ended : {S V : Type 0} → Node S V → Node S V
ended x = with_up x (if is_used x then end_up else no_up)

module _ {S V : Type 0} (r : Round) where
  -- what climbs by the door k + 1 of u from the records vs
  unfoldable pub up_by : List (Node S V) → Node S V → ℕ → List Up
  unfolding leg held_late
  up_by vs u k = map (λ v. climb_held r (leg r u.label.down.lasts (k + 1)) v.label.up (k + 1)) (numbered (slice_index u.arcs.to k) vs)

  -- by door; to one that is not in use nothing climbs
  unfoldable pub ups_of : List (Node S V) → Node S V → List Up
  unfolding up_by
  ups_of vs u = if u.label.down.lasts == 0 then [] else flat_map (up_by vs u) (range_with_len 0 16)

  -- a record, with what it gathers from the layer vs after it
  unfoldable pub risen : List (Node S V) → Node S V → Node S V
  unfolding ups_of gathered_up
  risen vs u = with_up u (gathered_up (ups_of vs u))

  -- the layer in front of w records and all after it, with so many layers between it and the end
  unfoldable pub risen_from : ℕ → ℕ → List (Node S V) → List (Node S V)
  unfolding risen
  risen_from w zero xs = let rest = map ended (take 1 (drop w xs)) ++ drop 1 (drop w xs) in renewed (risen (take 1 rest)) (take w xs) ++ rest
  risen_from w (suc k) xs = let rest = risen_from w k (drop w xs) in renewed (risen (take w rest)) (take w xs) ++ rest

  -- all layers of w records
  unfoldable pub pass_up : ℕ → List (Node S V) → List (Node S V)
  unfolding risen_from
  pass_up w xs = risen_from w (r.n - 1) xs

-- one more, as the code has it
abbrev pub taken_up : Option Up → Up → Option Up
taken_up None x = Some x
taken_up (Some a) x = Some (merge_up a x)

-- both passes, over the places in use
unfoldable pub relabelled_used : {S V : Type 0} → Setting S V → List (Node S V) → List (Node S V)
unfolding renewed_after pass_up
relabelled_used by xs = pass_up by.round by.width (renewed_after by (by.round.n - 1) (begun by.rule by.tally xs))

-- and over a list of which no label is known: the places of the layers before the end are blank first
unfoldable pub relabelled : {S V : Type 0} → Setting S V → List (Node S V) → List (Node S V)
unfolding relabelled_used
relabelled by xs = let at = by.round.n * by.width in relabelled_used by (map (unlabelled by.rule by.tally) (take at xs) ++ drop at xs)

-- a list of that length has room for a diagram of n doors and width w
abbrev pub fits : ℕ → ℕ → ℕ → Bool
fits n w long = nat_le 1 w && (nat_le w 128 && nat_le (n * w + 1) long)

-- ---- below a layer
module _ {S V : Type 0} (by : Setting S V) where
  -- the downward labels of layer i and of all after it anew, from those that stand in the layer before it, and then all upward
  -- labels; of a list without room, and where there is no such layer, nothing
  unfoldable pub below_steps : ℕ → List (Node S V) → List (Node S V)
  unfolding renewed_after pass_up
  below_steps i xs =
      let at = (i - 1) * by.width in
      if fits by.round.n by.width (length xs) && (nat_le 1 i && nat_le i by.round.n) then pass_up by.round by.width (take at xs ++ renewed_after by (by.round.n - i) (drop at xs))
      else xs

  -- the downward labels of the layers before layer i are those that the arcs Ls give
  abbrev pub HasDownsBefore : ℕ → Net → List (Node S V) → Type 0
  HasDownsBefore i Ls xs =
      map (λ x. x.label.down) (take (i * by.width) xs)
      ≡ map (λ x. x.label.down) (take (i * by.width) (records_with by xs Ls))

  -- the label of a place that is not in use
  abbrev pub unused_label : Node S V → Option (Label S V)
  unused_label x = if x.label.down.lasts == 0 then Some x.label else None

  -- in the layers before the end, the places in use are those of the arcs Ls, and the others have blank labels
  abbrev pub HasPlaces : Net → List (Node S V) → Type 0
  HasPlaces Ls xs =
      map unused_label (take (by.round.n * by.width) xs)
      ≡ map unused_label (take (by.round.n * by.width) (records_with by xs Ls))
