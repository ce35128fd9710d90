-- The in-arcs of a layer, listed once, and what is done by the list.
-- Nobody has to believe these steps: `words` of `part`, of `part_layer` and of `agreed` say what they come to.
use Rattle.std.specs.Prelude.{◌≡◌, ℕ, zero, suc, ◌+◌, ◌<◌, ◌≤◌, Bool, true, false, if◌then◌else◌, not, ◌&&◌, List, [], ◌∷◌, ◌++◌, map, length, take, drop, fold, ◌==◌, slice_index, slice_index_or, slice_set}
use Rattle.std.specs.List.{All, range_with_len, list_all}
use Rattle.layers.specs.declared.node.Node.{Node}
use Rattle.layers.specs.declared.node.Label.{Label}
use Rattle.layers.specs.Targets.{with_targets}
use Rattle.split.specs.declared.listing.InArc.{InArc}
use Rattle.split.specs.declared.listing.InArcs.{InArcs}

-- an in-arc, the number of the node that it leads to, and the label of its source
pub record Told (S V : Type 0) : Type 0 where
  pub arc : InArc
  pub to : ℕ
  pub label : Label S V

-- none before starts[t] leads to node t
abbrev pub IsEarly : InArcs → Type 0
IsEarly list = (m : ℕ) → m < list.many → slice_index list.starts (slice_index list.to m) ≤ m

-- what writing back leaves of a target
abbrev pub kept_arc : Bool → ℕ → ℕ
kept_arc true t = t
kept_arc false zero = zero
kept_arc false (suc b) = 1

module _ {S V : Type 0} where
  -- the arcs to the targets ts by the doors k + 1, k + 2, .. of a record at place a with the label l
  abbrev pub told_doors : ℕ → Label S V → ℕ → List ℕ → List (Told S V)
  told_doors a l k [] = []
  told_doors a l k (zero ∷ ts) = told_doors a l (k + 1) ts
  told_doors a l k (suc b ∷ ts) =
      record { arc = record { place = a; door = k }; to = suc b; label = l } ∷ told_doors a l (k + 1) ts

  -- all arcs of u, by door; a record that is not in use has none
  abbrev pub told_node : ℕ → Node S V → List (Told S V)
  told_node a u = if u.label.down.lasts == 0 then [] else told_doors a u.label 0 u.arcs.to

  -- all arcs of the records us at the places from a on, by place
  unfoldable pub told_from : ℕ → List (Node S V) → List (Told S V)
  told_from a [] = []
  told_from a (u ∷ us) = told_node a u ++ told_from (a + 1) us

  -- the records, once the arc by the door k + 1 of that at place p leads to node t
  abbrev pub put_arc : ℕ → ℕ → ℕ → List (Node S V) → List (Node S V)
  put_arc p k t [] = []
  put_arc zero k t (u ∷ us) = with_targets u (slice_set u.arcs.to k t) ∷ us
  put_arc (suc p) k t (u ∷ us) = u ∷ put_arc p k t us

  -- the records, once the m-th of the listed in-arcs is written back
  abbrev pub put_at : InArcs → List (Node S V) → ℕ → List (Node S V)
  put_at list us m =
      let x = slice_index_or list.arcs m (record { place = 0; door = 0 }) in
      put_arc x.place x.door (slice_index list.to m) us

  -- and once all are
  unfoldable pub written : List (Node S V) → InArcs → List (Node S V)
  written us list = fold (put_at list) us (range_with_len 0 list.many)

  -- of the list from that layer on, w records to a layer
  abbrev pub told_records : ℕ → InArcs → List (Node S V) → List (Node S V)
  told_records w list xs = written (take w xs) list ++ drop w xs

  -- what writing back leaves of a record: its label, which arcs it has, and all of one that is not in use
  abbrev pub husk : Node S V → Label S V × List ℕ
  husk u = (u.label, map (kept_arc (u.label.down.lasts == 0)) u.arcs.to)

  -- the m-th in-arc and its target are those of the m-th of these, and it comes from one of the records us that is in use
  pub record IsAt (us : List (Node S V)) (arcs : List InArc) (targets : List ℕ) (told : List (Told S V)) (m : ℕ) : Type 0 where
    pub x : Told S V
    pub is : (d : Told S V) → slice_index_or told m d ≡ x
    pub arc : (d : InArc) → slice_index_or arcs m d ≡ x.arc
    pub to : slice_index targets m ≡ x.to
    pub place : x.arc.place < length us
    pub door : x.arc.door < 16
    pub used : (x.label.down.lasts == 0) ≡ false
    pub label : (z : Node S V) → (slice_index_or us x.arc.place z).label ≡ x.label

  -- the list has these in-arcs
  pub record IsTold (us : List (Node S V)) (list : InArcs) (told : List (Told S V)) : Type 0 where
    pub many : list.many ≡ length told
    pub at : (m : ℕ) → m < list.many → IsAt us list.arcs list.to told m

  -- the list has the arcs of the records vs, which are the records us but for targets
  pub record Lists (us vs : List (Node S V)) (list : InArcs) : Type 0 where
    pub told : IsTold us list (told_from 0 vs)
    pub few : list.many ≤ 2048
    pub husks : map husk vs ≡ map husk us
    pub wide : All (λ u. length u.arcs.to ≡ 16) vs
    pub early : IsEarly list

  abbrev pub IsListed : List (Node S V) → InArcs → Type 0
  IsListed us list = Lists us (written us list) list

  module _ (stays : Label S V → ℕ → Bool) (t : ℕ) where
    -- x leads to node t, and does not stay
    abbrev pub leaves : Told S V → Bool
    leaves x = x.to == t && not (stays x.label (x.arc.door + 1))

    -- all that lead to node t stay
    abbrev pub all_stay : List (Told S V) → Bool
    all_stay xs = list_all (λ x. not (leaves x)) xs
