-- The calls as the code does them, in the flat list of records.
-- Nobody has to believe these steps: `words` of `part`, `part_layer`, `join` and `agreed` says what each comes to.
use Rattle.std.specs.Prelude.{◌≡◌, ℕ, zero, suc, ◌+◌, ◌-◌, ◌*◌, min, max, Bool, true, false, if◌then◌else◌, ◌&&◌, ◌||◌, List, ◌++◌, length, take, drop, Some, None, Option, Ok, Err, is_ok, ◌==◌, nat_le, nat_lt, slice_index_or}
use Rattle.layers.specs.declared.node.Node.{Node}
use Rattle.layers.specs.declared.node.Down.{Down}
use Rattle.layers.specs.declared.node.Label.{Label}
use Rattle.layers.specs.declared.refusal.Refusal.TheVariants.{Width, Short, NoLayer, NoNode, OneGroup, LayerFull, SameNode, Clash}
use Rattle.layers.specs.Calls.{Outcome}
use Rattle.layers.specs.Join.{clash}
use Rattle.layers.specs.Labels.{arrival_over, agree, all_agree, first_arrival}
use Rattle.layers.specs.Records.{nodes_in}
use Rattle.layers.specs.Settings.{Setting}
use Rattle.layers.specs.Targets.{targets}
use Rattle.labels.specs.Passes.{part, fits, arrivals, blank_node, relabelled}
use Rattle.split.specs.declared.listing.InArcs.{InArcs}
use Rattle.split.specs.Joined.{joined_second}
use Rattle.split.specs.Listed.{IsListed, told_records}
use Rattle.split.specs.Parted.{or_unused, parted_second}

-- ---- checks: passed, or the refusal
-- the second check, if the first is passed
abbrev pub and_then : Outcome → Outcome → Outcome
and_then (Ok u) b = b
and_then (Err e) b = Err e

-- a width other than 1 to 128, too few records, a layer that is not 1 to n - 1
abbrev pub place_check : ℕ → ℕ → ℕ → ℕ → Outcome
place_check n w long i =
    if nat_lt w 1 || nat_lt 128 w then Err Width
    else if nat_lt long (n * w + 1) then Err Short
    else if nat_lt i 1 || nat_le n i then Err NoLayer
    else Ok tt

-- node a of a layer that has m nodes
abbrev pub node_check : ℕ → ℕ → Outcome
node_check m a = if nat_lt a 1 || nat_lt m a then Err NoNode else Ok tt

-- the in-arcs agree, the layer is full
abbrev pub group_check : Bool → Bool → Outcome
group_check agreed full = if agreed then Err OneGroup else if full then Err LayerFull else Ok tt

-- one node twice, arcs by one door to two nodes
abbrev pub pair_check : Bool → Bool → Outcome
pair_check same apart = if same then Err SameNode else if apart then Err Clash else Ok tt

-- how many nodes stand in the w records at `at`
abbrev pub node_count : {S V : Type 0} → ℕ → ℕ → List (Node S V) → ℕ
node_count at w xs = length (nodes_in (part at w xs))

-- the record of node a of the layer at `at`; z stands for one past the list
abbrev pub record_at : {S V : Type 0} → Node S V → ℕ → ℕ → List (Node S V) → Node S V
record_at z at a xs = slice_index_or xs (at + (a - 1)) z

-- nodes a and b have arcs by one door to two nodes
abbrev pub clash_at : {S V : Type 0} → Node S V → ℕ → ℕ → ℕ → List (Node S V) → Bool
clash_at z at a b xs =
    clash (targets (record_at z at (min a b) xs)) (targets (record_at z at (max a b) xs))

module _ {S V : Type 0} (by : Setting S V) where
  -- the list of records
  abbrev pub Recs : Type 0
  Recs = List (Node S V)

  -- ---- part
  -- the in-arcs of node a of the layer after that at `at` agree
  abbrev pub alike : ℕ → ℕ → Recs → Bool
  alike at a xs = all_agree by.rule (arrivals by a (part at by.width xs))

  -- which in-arcs stay: those that agree with the first arrival, and those of a place that is not in use
  abbrev pub kept_first : Option (Down S V) → Label S V → ℕ → Bool
  kept_first None = λ u j. true
  kept_first (Some x) = or_unused (λ u j. agree by.rule x (arrival_over by u.down j))

  -- the node at place a of the layer after that at `at`, which has m nodes, parted
  unfoldable pub parted_one : ℕ → ℕ → ℕ → Recs → Recs
  unfolding parted_second arrival_over agree
  parted_one at a m xs =
      let x = first_arrival (arrivals by (suc a) (part at by.width xs)) in
      take at xs
      ++ parted_second (kept_first x) by.width a m (drop at xs) (blank_node by.rule by.tally)

  -- the same, unless its in-arcs agree or the layer is full
  abbrev pub next_records : ℕ → ℕ → ℕ → Recs → Recs
  next_records at a m xs =
      if alike at (suc a) xs then xs
      else if nat_le by.width m then xs
      else parted_one at a m xs

  -- the same, of records of which the in-arcs are altered in a list alone: the answer o, and what is left of both
  abbrev pub NodeDone : ℕ → ℕ → Recs → InArcs → Outcome → Recs → InArcs → Type 0
  NodeDone a m xs list o ys next =
      let old = told_records by.width list xs in
      (o ≡ group_check (alike 0 (suc a) old) (nat_le by.width m))
      × (told_records by.width next ys ≡ next_records 0 a m old) × IsListed (take by.width ys) next

  -- part node a of layer i
  unfoldable pub part_check : ℕ → ℕ → Recs → Outcome
  unfolding all_agree
  part_check i a xs =
      let at = (i - 1) * by.width in
      let m = node_count (at + by.width) by.width xs in
      and_then (place_check by.round.n by.width (length xs) i)
      (and_then (node_check m a) (group_check (alike at a xs) (nat_le by.width m)))

  unfoldable pub part_steps : ℕ → ℕ → Recs → Recs
  unfolding part_check parted_one relabelled
  part_steps i a xs =
      let at = (i - 1) * by.width in
      let m = node_count (at + by.width) by.width xs in
      if is_ok (part_check i a xs) then relabelled by (parted_one at (a - 1) m xs) else xs

  -- part the nodes at the places a, a + 1, .. of the layer after that at `at`, k at most, of the m that it has: whether one is
  -- left since the layer is full
  unfoldable pub parts_from : ℕ → ℕ → ℕ → ℕ → Recs → Bool × Recs
  unfolding all_agree parted_one
  parts_from at zero a m xs = (false, xs)
  parts_from at (suc k) a m xs =
      if nat_le m a then (false, xs)
      else if alike at (suc a) xs then parts_from at k (suc a) m xs
      else if nat_le by.width m then (true, xs)
      else parts_from at k (suc a) (suc m) (parted_one at a m xs)

  -- a layer of the list, or nothing of a list that does not fit or a layer that is not 1 to n - 1
  unfoldable pub layer_steps : ℕ → Recs → Bool × Recs
  unfolding parts_from
  layer_steps i xs =
      let at = (i - 1) * by.width in
      let m = node_count (at + by.width) by.width xs in
      if is_ok (place_check by.round.n by.width (length xs) i) then parts_from at by.width 0 m xs
      else (false, xs)

  -- ---- join
  -- nodes a and b of layer i
  unfoldable pub join_check : ℕ → ℕ → ℕ → Recs → Outcome
  unfolding clash targets
  join_check i a b xs =
      let at = (i - 1) * by.width + by.width in
      let m = node_count at by.width xs in
      let apart = clash_at (blank_node by.rule by.tally) at a b xs in
      and_then (place_check by.round.n by.width (length xs) i)
      (and_then (node_check m a) (and_then (node_check m b) (pair_check (a == b) apart)))

  -- the nodes at the places lo and hi of the layer after that at `at`, joined
  unfoldable pub joined_one : ℕ → ℕ → ℕ → Recs → Recs
  unfolding joined_second
  joined_one at lo hi xs =
      take at xs ++ joined_second by.width lo hi (drop at xs) (blank_node by.rule by.tally)

  unfoldable pub join_steps : ℕ → ℕ → ℕ → Recs → Recs
  unfolding join_check joined_one relabelled
  join_steps i a b xs =
      let at = (i - 1) * by.width in
      if is_ok (join_check i a b xs) then relabelled by (joined_one at (min a b - 1) (max a b - 1) xs)
      else xs

  -- ---- agreed: of the nodes 1 to b of the layer after the records us, and of the layers 1 to k
  unfoldable pub agreed_to : ℕ → Recs → Bool
  unfolding all_agree
  agreed_to zero us = true
  agreed_to (suc b) us = all_agree by.rule (arrivals by (suc b) us) && agreed_to b us

  unfoldable pub agreed_layers : ℕ → Recs → Bool
  unfolding agreed_to
  agreed_layers zero xs = true
  agreed_layers (suc k) xs =
      let at = k * by.width in
      agreed_to (node_count (at + by.width) by.width xs) (part at by.width xs) && agreed_layers k xs

  -- no, of a list that does not fit
  unfoldable pub agreed_steps : Recs → Bool
  unfolding agreed_layers
  agreed_steps xs =
      if fits by.round.n by.width (length xs) then agreed_layers (by.round.n - 1) xs else false
