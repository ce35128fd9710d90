-- A layer of the records, in use as far as the net's has nodes: what arrives from it, and the layer after it parted
use Rattle.std.proofs.Common.{◌≡◌, ℕ, zero, suc, ◌≤◌, Bool, true, false, cond, not, eqb, List, [], ◌∷◌, ◌++◌, map, length, get_or, take, drop, refl, ap, ◌∙◌, ap₂, zero-add, arith, length-take, ◌+◌, ◌*◌, ◌<◌, ◌||◌, Some, None, Option, sym, suc-mul, zero-mul, ◌-◌}
use Rattle.std.specs.List.{range_with_len, flat_map}
use Rattle.layers.specs.declared.node.Arcs.{Arcs}
use Rattle.layers.specs.declared.node.Node.{Node}
use Rattle.layers.specs.Net.{table, Outs, Layer, Net, node}
use Rattle.layers.specs.Flow.{arrivals_by_door, arrivals_at}
use Rattle.layers.specs.Labels.{arrival_over, agree, all_agree, first_arrival, differs_from_first}
use Rattle.layers.specs.Records.{nodes_in, arcs_in, downs_in, padded_targets, arcs_at}
use Rattle.layers.specs.Calls.{arrivals as arrivalsIn, parted_arcs, arcs, layer}
use Rattle.layers.proofs.Flows.{table_at}
use Rattle.labels.specs.Passes.{by_door, from_node, arrivals, part, blank_node}
use Rattle.labels.proofs.Inward.{over-door, doors-in}
use Rattle.labels.proofs.Laying.{arcs_of, Arranged, Good}
use Rattle.layers.specs.Settings.{Setting}
use Rattle.std.specs.Prelude.{◌==◌}
use Rattle.std.proofs.lemmas.List.{drop-drop, length-map, length-take-le, get_or-map, get_or-take, get_or_default, same_lists}
use Rattle.round.specs.declared.table.Round.{Round}
use Rattle.layers.specs.declared.node.Down.{Down}
use Rattle.layers.specs.declared.node.Label.{Label}
use Rattle.layers.specs.Lawful.{IsEven, IsLawful}
use Rattle.layers.proofs.Bridge.{table-long}
use Rattle.layers.proofs.Shaped.{standing-at, layer-at, drawn-at, shaped-proper}
use Rattle.labels.proofs.RedirectNet.{arcs-arranged}
use Rattle.labels.proofs.Shaped_arranged.{proper-good, shaped-arranged}
use Rattle.split.specs.Steps.{alike, kept_first, parted_one, node_count}
use Rattle.split.proofs.DepthNet.{good-room, two-fit, part-arranged, part-tail, part_length, part-labels}
use Rattle.layers.specs.Shape.{IsShaped}

module _ {S V : Type 0} (by : Setting S V) where
  -- a record that is not in use, one that is, and one without arcs
  from-unused : (t : ℕ) (u : Node S V) → eqb u.label.down.lasts 0 ≡ true → from_node by t u ≡ []
  unfolding from_node
  from-unused t u e = ap (λ (q : Bool). cond q [] (flat_map (by_door by t u) (range_with_len 0 16))) e

  from-used : (b : ℕ) (nd : Outs) (u : Node S V) → length nd ≤ 16 → u.arcs ≡ record { to = padded_targets nd } → eqb u.label.down.lasts 0 ≡ false
      → from_node by (suc b) u ≡ arrivals_by_door (arrival_over by) b u.label.down 1 nd
  unfolding from_node by_door
  from-used b nd u h is e =
      ap (λ (q : Bool). cond q [] (flat_map (over-door by (suc b) u.arcs.to u.label.down) (range_with_len 0 16))) e
      ∙ doors-in by b u.label.down nd u.arcs.to 0 16 h (λ i g. ap₂ (λ (x : Arcs) (k : ℕ). get_or x.to k 0) is (zero-add i) ∙ table_at 16 i (λ k. get_or nd k 0) 0 g)

  from-bare : (b : ℕ) (u : Node S V) → u.arcs ≡ record { to = padded_targets [] } → from_node by (suc b) u ≡ []
  unfolding arrivals_by_door
  from-bare b u is = go (eqb u.label.down.lasts 0) refl
    where
      go : (q : Bool) → eqb u.label.down.lasts 0 ≡ q → from_node by (suc b) u ≡ []
      go true e = from-unused (suc b) u e
      go false e = from-used b [] u (omega arith) is e

  none_from : (b w : ℕ) (us : List (Node S V)) → map arcs_of us ≡ table w (arcs_at []) → flat_map (from_node by (suc b)) us ≡ []
  none_from b w [] e = refl
  none_from b zero (u ∷ us) e = absurd (omega (arith, ap length e))
  none_from b (suc w) (u ∷ us) e = ap₂ (λ xs ys. xs ++ ys) (from-bare b u (ap (λ xs. get_or xs 0 u.arcs) e)) (none_from b w us (ap (drop 1) e))

  pub arrivals-standing : (w b : ℕ) (us : List (Node S V)) → map arcs_of us ≡ table w (arcs_at (arcs_in by.round.n (nodes_in us))) → arrivals by (suc b) us ≡ arrivalsIn by (downs_in (nodes_in us)) (arcs_in by.round.n (nodes_in us)) b
  unfolding arrivals_at
  arrivals-standing w b [] e = refl
  arrivals-standing zero b (u ∷ us) e = absurd (omega (arith, ap length e))
  arrivals-standing (suc w) b (u ∷ us) e = go (arrivals-standing w b us) (eqb u.label.down.lasts 0) refl e
    where
      go : (map arcs_of us ≡ table w (arcs_at (arcs_in by.round.n (nodes_in us))) → flat_map (from_node by (suc b)) us ≡ arrivals_at (arrival_over by) b (downs_in (nodes_in us)) (arcs_in by.round.n (nodes_in us)))
          → (q : Bool) → eqb u.label.down.lasts 0 ≡ q → map arcs_of (u ∷ us) ≡ table (suc w) (arcs_at (arcs_in by.round.n (cond (not q) (u ∷ nodes_in us) [])))
          → flat_map (from_node by (suc b)) (u ∷ us) ≡ arrivals_at (arrival_over by) b (downs_in (cond (not q) (u ∷ nodes_in us) [])) (arcs_in by.round.n (cond (not q) (u ∷ nodes_in us) []))
      go again true is e = ap₂ (λ xs ys. xs ++ ys) (from-unused (suc b) u is) (none_from b w us (ap (drop 1) e))
      go again false is e =
          ap₂ (λ xs ys. xs ++ ys)
          (from-used b (take by.round.n u.arcs.to) u (omega (arith, length-take by.round.n u.arcs.to, by.round.most)) (ap (λ xs. get_or xs 0 u.arcs) e) is)
          (again (ap (drop 1) e))

take-padded : (n : ℕ) (nd : Outs) → n ≤ 16 → length nd ≡ n → take n (padded_targets nd) ≡ nd
take-padded n nd h e =
    let f : ℕ → ℕ = λ k. get_or nd k 0 in
    let long : length (take n (padded_targets nd)) ≡ n = length-take-le n (padded_targets nd) (omega (arith, table-long 16 f)) in
    same_lists (take n (padded_targets nd)) nd (long ∙ sym e)
    (λ k d lt. get_or-take n (padded_targets nd) k d (omega (arith, long)) ∙ table_at 16 k f d (omega (arith, long)) ∙ get_or_default nd k 0 d (omega (arith, long)))

even-at : (n d : ℕ) (Ls : Net) → d < length Ls → IsEven n Ls → (a : ℕ) → a < length (get_or Ls d []) → length (node (get_or Ls d []) a) ≡ n
even-at n d [] lt e = absurd (omega arith)
even-at n zero (L ∷ Ls) lt e = e.0
even-at n (suc d) (L ∷ Ls) lt e = even-at n d Ls (omega arith) e.1

-- a node of a net has at most sixteen targets
pub node-few : (r : Round) (W d : ℕ) (Ls : Net) → IsLawful r.n W Ls → (a : ℕ) → length (node (get_or Ls d []) a) ≤ 16
node-few r W d Ls p = go d Ls (proper-good r W Ls p)
  where
    go : (d : ℕ) (Ls : Net) → Good W Ls → (a : ℕ) → length (node (get_or Ls d []) a) ≤ 16
    go d [] g a = omega arith
    go zero (L ∷ Ls) g a = g.0 a
    go (suc d) (L ∷ Ls) g a = go d Ls g.3 a

-- ---- the records in use
module _ {S V : Type 0} where
  -- the labels alone decide which
  abbrev pub labelsOf : List (Node S V) → List (Label S V)
  labelsOf = map (λ (x : Node S V). x.label)

  pub stand-same : (us vs : List (Node S V)) → labelsOf us ≡ labelsOf vs → (downs_in (nodes_in us) ≡ downs_in (nodes_in vs)) × (length (nodes_in us) ≡ length (nodes_in vs))
  stand-same [] [] e = (refl, refl)
  stand-same [] (v ∷ vs) e = absurd (omega (arith, ap length e))
  stand-same (u ∷ us) [] e = absurd (omega (arith, ap length e))
  stand-same (u ∷ us) (v ∷ vs) e =
      let h : u.label ≡ v.label = ap (λ ls. get_or ls 0 u.label) e in
      let r = stand-same us vs (ap (drop 1) e) in
      (grind (arith, h, r.0), grind (arith, h, r.1))

  pub standing-used : (us : List (Node S V)) (u : ℕ) (x : Node S V) → u < length (nodes_in us) → ((get_or (nodes_in us) u x).label.down.lasts == 0) ≡ false
  standing-used [] u x lt = absurd (omega arith)
  standing-used (v ∷ vs) zero x lt = grind (arith, lt)
  standing-used (v ∷ vs) (suc u) x lt = grind (arith, lt, standing-used vs u x)

  -- ---- one layer
  -- their arcs are the net's
  pub arcs-standing : (n w : ℕ) (z : Node S V) (L : Layer) (us : List (Node S V)) → n ≤ 16 → ((a : ℕ) → a < length L → length (node L a) ≡ n) → length L ≤ w → map arcs_of us ≡ table w (arcs_at L)
      → length (nodes_in us) ≡ length L → arcs_in n (nodes_in us) ≡ L
  arcs-standing n w z L us h even room e long =
      let f : Node S V → List ℕ = λ x. take n x.arcs.to in
      let many : length (arcs_in n (nodes_in us)) ≡ length L = length-map (nodes_in us) f ∙ long in
      same_lists (arcs_in n (nodes_in us)) L many
      (λ k d lt.
      get_or-map f (nodes_in us) k z d (omega (arith, many)) ∙ ap f (standing-at us k z (omega (arith, many)))
      ∙ ap (λ (x : Arcs). take n x.to) (arcs-arranged w L us k z e (omega (arith, many)))
      ∙ take-padded n (node L k) h (even k (omega (arith, many))) ∙ get_or_default L k [] d (omega (arith, many)))

  -- ---- layer d of the records
  pub arranged-at : (w d : ℕ) (Ls : Net) (xs : List (Node S V)) → d < length Ls → Arranged w Ls xs → map arcs_of (part (d * w) w xs) ≡ table w (arcs_at (get_or Ls d []))
  arranged-at w d [] xs lt arr = absurd (omega arith)
  arranged-at w zero (L ∷ Ls) xs lt arr = ap (λ (k : ℕ). map arcs_of (take w (drop k xs))) (zero-mul w) ∙ arr.0
  arranged-at w (suc d) (L ∷ Ls) xs lt arr =
      let e : suc d * w ≡ w + d * w = omega (arith, suc-mul d w) in
      ap (λ (k : ℕ). map arcs_of (take w (drop k xs))) e ∙ ap (λ ys. map arcs_of (take w ys)) (sym (drop-drop (d * w) w xs)) ∙ arranged-at w d Ls (drop w xs) (omega arith) arr.1

-- ---- what is known of the records of the net Ls, with layer d in use as far as the net's has nodes
module _ {S V : Type 0} (by : Setting S V) (d : ℕ) (Ls : Net) (xs : List (Node S V)) where
  pub record Known : Type 0 where
    pub proper : IsLawful by.round.n by.width Ls
    pub arranged : Arranged by.width Ls xs
    pub fit : by.round.n * by.width + 1 ≤ length xs
    pub deep : suc d < by.round.n
    pub stand : length (nodes_in (part (d * by.width) by.width xs)) ≡ length (get_or Ls d [])

  abbrev pub us : List (Node S V)
  us = part (d * by.width) by.width xs

  abbrev pub labs : List (Option (Down S V))
  labs = downs_in (nodes_in us)

  module _ (k : Known) where
    within : suc d < length Ls
    within = let deep = k.deep in omega (arith, k.proper.deep)

    room : length (get_or Ls d []) ≤ by.width
    room = good-room by.width d Ls (proper-good by.round by.width Ls k.proper)

    known-arcs : arcs_in by.round.n (nodes_in us) ≡ get_or Ls d []
    known-arcs = arcs-standing by.round.n by.width (blank_node by.rule by.tally) (get_or Ls d []) us by.round.most (even-at by.round.n d Ls (omega (arith, within)) k.proper.even) room (arranged-at by.width d Ls xs (omega (arith, within)) k.arranged) k.stand

    -- what arrives
    pub known-standing : (a : ℕ) → arrivals by (suc a) us ≡ arrivalsIn by labs (arcs_in by.round.n (nodes_in us)) a
    known-standing a = arrivals-standing by by.width a us (arranged-at by.width d Ls xs (omega (arith, within)) k.arranged ∙ ap (λ (L : Layer). table by.width (arcs_at L)) (sym known-arcs))

    pub known-arrivals : (a : ℕ) → arrivals by (suc a) us ≡ arrivalsIn by labs (get_or Ls d []) a
    known-arrivals a = known-standing a ∙ ap (λ L. arrivalsIn by labs L a) known-arcs

    pub known_alike : (a : ℕ) → alike by (d * by.width) (suc a) xs ≡ all_agree by.rule (arrivalsIn by labs (get_or Ls d []) a)
    known_alike a = ap (all_agree by.rule) (known-arrivals a)

    -- which in-arcs leave
    kept : (o : Option (Down S V)) (x : Node S V) (u j : ℕ) → u < length (get_or Ls d []) → differs_from_first by o (get_or labs u None) j ≡ not (kept_first by o (get_or (drop (d * by.width) xs) u x).label j)
    kept None x u j lt = refl
    kept (Some y) x u j lt =
        let f : Node S V → Option (Down S V) = λ v. Some v.label.down in
        let le = room in
        let lt' : u < length (nodes_in us) = omega (arith, k.stand) in
        let v = get_or (drop (d * by.width) xs) u x in
        let there : get_or (nodes_in us) u x ≡ v = standing-at us u x lt' ∙ get_or-take by.width (drop (d * by.width) xs) u x (omega arith) in
        let used : (v.label.down.lasts == 0) ≡ false = ap (λ (w : Node S V). w.label.down.lasts == 0) (sym there) ∙ standing-used us u x lt' in
        ap (λ o. differs_from_first by (Some y) o j) (get_or-map f (nodes_in us) u x None lt' ∙ ap f there)
        ∙ ap (λ (q : Bool). not (q || agree by.rule y (arrival_over by v.label.down j))) (sym used)

    pub known-parted : (a m : ℕ) → m ≡ length (get_or Ls (suc d) []) → a < m → m < by.width → Arranged by.width (parted_arcs by d a labs Ls) (parted_one by (d * by.width) a m xs)
    unfolding parted_one
    known-parted a m em al ml =
        part-arranged by (kept_first by (first_arrival (arrivals by (suc a) us))) by.width d a m (blank_node by.rule by.tally) labs Ls xs (proper-good by.round by.width Ls k.proper) within em al ml k.arranged _ refl
        (λ x u j lt. ap (λ zs. differs_from_first by (first_arrival zs) (get_or labs u None) j) (sym (known-arrivals a)) ∙ kept (first_arrival (arrivals by (suc a) us)) x u j lt)

    -- the places after the end, the length, and the labels of the layer before stay
    pub known-tail : (a m : ℕ) → m < by.width → drop (by.round.n * by.width + 1) (parted_one by (d * by.width) a m xs) ≡ drop (by.round.n * by.width + 1) xs
    unfolding parted_one
    known-tail a m ml = part-tail (kept_first by (first_arrival (arrivals by (suc a) us))) by.round.n by.width d a m (blank_node by.rule by.tally) xs k.deep ml k.fit

    pub known-labels : (a m : ℕ) → labelsOf (part (d * by.width) by.width (parted_one by (d * by.width) a m xs)) ≡ labelsOf us
    unfolding parted_one
    known-labels a m =
        let fits = two-fit by.width d by.round.n k.deep in
        part-labels (kept_first by (first_arrival (arrivals by (suc a) us))) by.width d a m (blank_node by.rule by.tally) xs (omega (arith, k.fit))

  pub known-length : (a m : ℕ) → length (parted_one by (d * by.width) a m xs) ≡ length xs
  unfolding parted_one
  known-length a m = part_length (kept_first by (first_arrival (arrivals by (suc a) us))) by.width d a m (blank_node by.rule by.tally) xs

module _ {S V : Type 0} (n W : ℕ) (xs : List (Node S V)) where
  -- a layer of the net has the nodes that stand
  pub standing-long : (d : ℕ) → d < n → length (nodes_in (part (d * W) W xs)) ≡ length (get_or (arcs n W xs) d [])
  standing-long d lt =
      sym (ap (λ (N : List (Node S V)). length N) (layer-at W n d xs lt))
      ∙ sym (length-map (layer n W d xs) (λ (x : Node S V). take n x.arcs.to))
      ∙ sym (ap length (drawn-at n W n d xs lt))

  -- and so has the layer after it, by its place
  pub count_long : (d : ℕ) → suc d < n → node_count (d * W + W) W xs ≡ length (get_or (arcs n W xs) (suc d) [])
  count_long d lt = let e : d * W + W ≡ suc d * W = omega (arith, suc-mul d W) in ap (λ (k : ℕ). node_count k W xs) e ∙ standing-long (suc d) lt

  pub count-layer : (d : ℕ) → suc d < n → node_count (d * W + W) W xs ≡ length (layer n W (suc d) xs)
  count-layer d lt = let e : d * W + W ≡ suc d * W = omega (arith, suc-mul d W) in ap (λ (k : ℕ). node_count k W xs) e ∙ sym (ap (λ (N : List (Node S V)). length N) (layer-at W n (suc d) xs lt))

  pub count-at : (i : ℕ) → 1 ≤ i → i < n → node_count ((i - 1) * W + W) W xs ≡ length (layer n W i xs)
  count-at i low high = let back : suc (i - 1) ≡ i = omega arith in count-layer (i - 1) (omega arith) ∙ ap (λ (k : ℕ). length (layer n W k xs)) back

module _ {S V : Type 0} (by : Setting S V) (xs : List (Node S V)) (some : 1 ≤ by.width) (fit : by.round.n * by.width + 1 ≤ length xs) (s : IsShaped by.round.n by.width xs) where
  pub known-shaped : (d : ℕ) → suc d < by.round.n → Known by d (arcs by.round.n by.width xs) xs
  known-shaped d lt = record {
    proper = shaped-proper by.round by.width xs s;
    arranged = shaped-arranged by.round by.width xs fit s;
    fit = fit;
    deep = lt;
    stand = standing-long by.round.n by.width xs d (omega arith);
  }
