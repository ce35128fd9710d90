-- What the labels mean, in terms of the paths of the diagram in which they stand. Layers and places in a layer count from 0.
use Rattle.std.specs.Prelude.{◌≡◌, ℕ, suc, ◌<◌, ◌≤◌, List, [], ◌∷◌, ◌++◌, length, drop, slice_index_or, ℤ, pos, ◌≤ℤ◌}
use Rattle.doors.specs.Orders.{StandsIn, IsPartOrder}
use Rattle.doors.specs.Sets.{Has}
use Rattle.round.specs.Clock.{door, latest_finish}
use Rattle.round.specs.declared.table.Round.{Round}
use Rattle.rules.specs.Rules.{RuleSense}
use Rattle.tallies.specs.Tallies.{TallySense}
use Rattle.orders.specs.Times.{next_van, van_after}
use Rattle.orders.specs.declared.van.Van.{Van}
use Rattle.layers.specs.declared.node.Node.{Node}
use Rattle.layers.specs.Net.{Net, node, target, PathFrom}
use Rattle.layers.specs.declared.call.Call.{Call}
use Rattle.layers.specs.Settings.{setting}
use Rattle.layers.specs.Calls.{arcs, layer, after_open, after_calls}

-- w is read along arcs from the node at place a of the first of these layers to place b of the layer that w reaches
abbrev pub PathTo : Net → ℕ → List ℕ → ℕ → Type 0
PathTo Ls a [] b = a ≡ b
PathTo [] a (j ∷ w) b = ⊥
PathTo (L ∷ Ls) a (j ∷ w) b = (c : ℕ) × (target (node L a) j ≡ suc c) × PathTo Ls c w b

-- w is read along a path to the node at place a of layer i: from the first node, over i arcs
abbrev pub LeadsTo : Net → ℕ → ℕ → List ℕ → Type 0
LeadsTo D i a w = PathTo D 0 w a × (length w ≡ i)

-- w is read along a path from the node at place a of layer i to the end
abbrev pub LeadsOn : Net → ℕ → ℕ → List ℕ → Type 0
LeadsOn D i a w = PathFrom (drop i D) a w

-- there are such paths, and door j is on every one
abbrev pub OnEvery : (List ℕ → Type 0) → ℕ → Type 0
OnEvery Path j = ((w : List ℕ) × Path w) × ((w : List ℕ) → Path w → StandsIn j w)

-- door j is on at least one such path
abbrev pub OnOne : (List ℕ → Type 0) → ℕ → Type 0
OnOne Path j = (w : List ℕ) × Path w × StandsIn j w

-- door j is in the set m exactly if P is so of j
abbrev pub Exactly : ℕ → (ℕ → Type 0) → Type 0
Exactly m P = (j : ℕ) → (Has m j → P j) × (P j → Has m j)

-- going on through the doors of w from the van a, no door finishes after it closes
abbrev pub KeepsHoursFrom : Round → Van → List ℕ → Type 0
KeepsHoursFrom r a [] = Unit {0}
KeepsHoursFrom r a (j ∷ w) = ((next_van r a j).finish ≤ (door r j).closes) × KeepsHoursFrom r (next_van r a j) w

-- the van at the last door of p, or at the yard, if it leaves there at minute m
abbrev pub leaving : Round → List ℕ → ℕ → Van
leaving r p m = record { last = (van_after r p).last; finish = m }

-- no minute from 0 to 9,999 is past t at which an order can leave the node and still keep all later hours: the order leads over the
-- doors of p to the node, and on over those of w to the end; D has the arcs of the diagram, and the node stands at place a of layer i
abbrev pub IsLastMinute : Round → Net → ℕ → ℕ → ℤ → Type 0
IsLastMinute r D i a t =
    (p w : List ℕ) (m : ℕ) → LeadsTo D i a p → LeadsOn D i a w → IsPartOrder r.n (p ++ w)
    → m ≤ 9999 → KeepsHoursFrom r (leaving r p m) w → pos m ≤ℤ t

-- the record x of the node at place a of layer i, in a diagram with the arcs D; Allows k says which values are allowed after k doors
pub record Labelled {S V : Type 0} (r : Round) (Allows : ℕ → V → Type 0) (D : Net) (i a : ℕ) (x : Node S V) : Type 0 where
  -- a path leads to the node, and one on from it to the end, unless it is the first node: in an empty diagram only that stands
  pub reached : (w : List ℕ) × LeadsTo D i a w
  pub leads : 1 ≤ i → (w : List ℕ) × LeadsOn D i a w
  -- which doors every path to the node has, and which some path
  pub all : Exactly x.label.down.all (OnEvery (LeadsTo D i a))
  pub some : Exactly x.label.down.some (OnOne (LeadsTo D i a))
  -- the doors on every path from it to the end, and on at least one
  pub allup : Exactly x.label.up.allup (OnEvery (LeadsOn D i a))
  pub someup : Exactly x.label.up.someup (OnOne (LeadsOn D i a))
  -- the finish is not above the clock's bound after i steps, and the value is allowed after i doors
  pub finish : x.label.down.finish ≤ latest_finish i
  -- the last minute to leave it is not below that of any order that runs through the node
  pub late : IsLastMinute r D i a x.label.up.late
  pub value : Allows i x.label.down.value

-- for one rule and one tally: every round that both serve, every width from 1 to 128, every lent list, every list of calls after opening,
-- every node that then stands, whose record is at its place of its layer; the end is the only node of layer n
abbrev pub LabelsMean : {S V : Type 0} → (ℕ → Type 0) → RuleSense S → (ℕ → Type 0) → TallySense V → (ℕ → V → Type 0) → Type 0
LabelsMean {S} {V} RuleServes rule TallyServes tally Allows =
    (r : Round) → RuleServes r.n → TallyServes r.n → (W : ℕ) → 1 ≤ W → W ≤ 128 → (lent : List (Node S V)) (cs : List (Call V))
    → let by = setting r rule tally W in let xs = after_calls by cs (after_open by lent) in
    (i a : ℕ) (other : Node S V) → i ≤ r.n → a < length (layer r.n W i xs) → Labelled r Allows (arcs r.n W xs) i a (slice_index_or (layer r.n W i xs) a other)
