-- Taking out arcs on the flat list comes to taking them out of the net.
use Rattle.std.proofs.Common.{◌≡◌, ℕ, zero, suc, ◌+◌, ◌-◌, ◌*◌, ◌<◌, ◌≤◌, Bool, cond, List, [], ◌++◌, map, length, get_or, take, drop, Some, None, Option, sym, refl, ap, ◌∙◌, subst, ap₂, suc-mul, arith, take-append-drop}
use Rattle.std.proofs.lemmas.Bool.{lt-ltb}
use Rattle.std.proofs.lemmas.List.{get_or-drop, get_or-map, get_or_past, length-map, map-append, take_at, drop_at, drop-drop, length-append, length-drop, length-take, get_or-take, length-take-le}
use Rattle.layers.specs.declared.node.Arcs.{Arcs}
use Rattle.layers.specs.declared.node.Down.{Down}
use Rattle.layers.specs.declared.node.Node.{Node}
use Rattle.layers.specs.declared.node.Up.{Up}
use Rattle.layers.specs.Net.{table, Layer, Net, node, target, width, redirect, each_door}
use Rattle.layers.specs.Records.{nodes_in, layers, arcs_in, downs_in, ups_in, arcs_of_layers, arcs_at, padded_targets}
use Rattle.layers.specs.Targets.{redirected, with_targets}
use Rattle.layers.specs.Calls.{kept_arcs, labels_in}
use Rattle.layers.proofs.Shaped.{standing-at, standing-short, drawn-deep}
use Rattle.layers.proofs.Proper.{RangedAll}
use Rattle.layers.proofs.Tied.{redirect-length}
use Rattle.labels.proofs.Laying.{Arranged, arcs_of}
use Rattle.labels.proofs.RedirectNet.{redirect-arranged, arranged-long, arcs-arranged, targets-is}
use Rattle.labels.proofs.Places.{all-same}
use Rattle.tidying.specs.InUse.{on_nodes}
use Rattle.tidying.proofs.InUse.{nodes-first, mapped-long, mapped-nodes}
use Rattle.tidying.specs.Tidied.{tidied, first_mark}
use Rattle.tidying.proofs.Steps.{tail-is}
use Rattle.tidying.proofs.TidyNet.{Standing}
use Rattle.filter.specs.Kept.{kept_to, kept_node, kept_from}

abbrev pub Goes : (S V : Type 0) → Type 0
Goes S V = ℕ → ℕ → ℕ → Option (Down S V) → Option Up → Bool

module _ {S V : Type 0} (n : ℕ) where
  pub arcs-many : (N : List (Node S V)) → length (arcs_in n N) ≡ length N
  arcs-many N = length-map N (λ (x : Node S V). take n x.arcs.to)

-- the label of a node as it stands, read off the layer and off the list
down-there : {S V : Type 0} (us : List (Node S V)) (a : ℕ) (d : Node S V) → a < length (nodes_in us) → get_or (downs_in (nodes_in us)) a None ≡ Some (get_or us a d).label.down
down-there {S} {V} us a d h =
    get_or-map (λ (x : Node S V). Some x.label.down) (nodes_in us) a d None h ∙ ap (λ (x : Node S V). Some x.label.down) (standing-at us a d h)

up-there : {S V : Type 0} (m : ℕ) (vs : List (Node S V)) (b : ℕ) (d : Node S V) → b < length (nodes_in (take m vs)) → (b < length vs) × (get_or (ups_in vs) b None ≡ get_or (ups_in (nodes_in (take m vs))) b None)
up-there {S} {V} m vs b d h =
    let up : Node S V → Option Up = λ x. Some x.label.up in
    let us = take m vs in
    let lt : (b < length vs) × (b < m) = (omega (arith, standing-short us, length-take m vs), omega (arith, standing-short us, length-take m vs)) in
    (lt.0, get_or-map up vs b d None lt.0 ∙ ap up (sym (standing-at us b d h ∙ get_or-take m vs b d lt.1)) ∙ sym (get_or-map up (nodes_in us) b d None h))

-- ---- one layer
module _ {S V : Type 0} (n : ℕ) (goes : ℕ → ℕ → ℕ → Option (Down S V) → Option Up → Bool) (W : ℕ) where
  -- what becomes of an arc of the layer us, ahead of the layer vs
  abbrev Left : ℕ → ℕ → List (Node S V) → List (Node S V) → ℕ → ℕ → ℕ → ℕ
  Left i h us vs a j b = cond (goes i h j (get_or (downs_in (nodes_in us)) a None) (get_or (ups_in (nodes_in vs)) b None)) 0 (suc b)

  -- a record without arcs has none to lose
  bare-kept : (i h : ℕ) (vs : List (Node S V)) (x : Node S V) → x.arcs ≡ arcs_at [] 0 → kept_node goes i h vs x ≡ x
  unfolding kept_node kept_to redirected each_door
  bare-kept i h vs x e =
      let to = ap (λ (y : Arcs). y.to) e in
      ap (λ (ts : List ℕ). with_targets x (each_door (kept_to goes i h vs x) 1 ts)) (targets-is x [] to) ∙ ap (with_targets x) (sym to)

  -- so it is as if a pass went over the places that are not in use too
  unused-kept : (i h : ℕ) (us vs : List (Node S V)) → map arcs_of us ≡ table W (arcs_at (arcs_in n (nodes_in us))) → on_nodes (map (kept_node goes i h vs)) us ≡ map (kept_node goes i h vs) us
  unused-kept i h us vs e =
      let f = kept_node goes i h vs in
      let N = nodes_in us in
      let q = drop (length N) us in
      let same : map f q ≡ q = all-same f q (λ k d lt. bare-kept i h vs (get_or q k d) (
      ap arcs_of (get_or-drop (length N) us k d)
      ∙ arcs-arranged W (arcs_in n N) us (length N + k) d e (omega (arith, length-drop (length N) us, arranged-long W (arcs_in n N) us e))
      ∙ ap (λ (nd : List ℕ). record { to = padded_targets nd }) (get_or_past (arcs_in n N) (length N + k) [] (omega (arith, arcs-many n N))))) in
      ap (λ ys. map f N ++ ys) (sym same) ∙ sym (map-append f N q) ∙ ap (map f) (ap (λ ys. ys ++ q) (sym (nodes-first us)) ∙ take-append-drop (length N) us)

  kept_row : (i h m : ℕ) (us vs : List (Node S V)) → length (arcs_in n (nodes_in us)) ≤ W → map arcs_of us ≡ table W (arcs_at (arcs_in n (nodes_in us)))
      → ((a j b : ℕ) → target (node (arcs_in n (nodes_in us)) a) j ≡ suc b → b < length (nodes_in (take m vs)))
      → map arcs_of (on_nodes (map (kept_node goes i h vs)) us) ≡ table W (arcs_at (redirect (Left i h us (take m vs)) (arcs_in n (nodes_in us))))
  unfolding kept_node kept_to
  kept_row i h m us vs fits e g =
      ap (map arcs_of) (unused-kept i h us vs e)
      ∙ redirect-arranged W (arcs_in n (nodes_in us)) us (kept_to goes i h vs) (Left i h us (take m vs)) fits e
      (λ d a j b k t. let there = up-there m vs b d (g a j b t) in
      rw (lt-ltb b (length vs) there.0)
      (ap₂ (λ (x : Option (Down S V)) (y : Option Up). cond (goes i h j x y) 0 (suc b))
      (sym (down-there us a d (omega (arith, arcs-many n (nodes_in us))))) there.1))

  -- ---- all layers
  pub front-row : (X Y : List (Node S V)) (L : Layer) → map arcs_of X ≡ table W (arcs_at L) → (take W (X ++ Y) ≡ X) × (drop W (X ++ Y) ≡ Y)
  front-row X Y L e = let l = arranged-long W L X e in (take_at X Y W l, drop_at X Y W l)

  -- an arc to the end finds it standing
  abbrev Ended : ℕ → List (Node S V) → Type 0
  Ended k xs = (a j b : ℕ) → target (node (get_or (arcs_of_layers n (layers W k xs)) (k - 1) []) a) j ≡ suc b → length (get_or (layers W k xs) k []) ≡ 1

  row-short : (us : List (Node S V)) (L : Layer) → map arcs_of us ≡ table W (arcs_at L) → length (arcs_in n (nodes_in us)) ≤ W
  row-short us L e = omega (arith, arcs-many n (nodes_in us), standing-short us, arranged-long W L us e)

  row-wide : (k : ℕ) (ys : List (Node S V)) → width (arcs_of_layers n (layers W (suc k) ys)) ≡ length (nodes_in (take W ys))
  row-wide zero ys = arcs-many n (nodes_in (take W ys))
  row-wide (suc k) ys = arcs-many n (nodes_in (take W ys))

  -- the arcs that stand in k layers of the list, less those that go
  abbrev pub Filtered : ℕ → ℕ → List (Node S V) → Net
  Filtered i k xs = kept_arcs goes i (arcs_of_layers n (layers W k xs)) (labels_in (layers W k xs))

  -- and as many places are in use
  row-stands : (i h : ℕ) (us vs ys : List (Node S V)) (f : ℕ → ℕ → ℕ → ℕ) → ys ≡ on_nodes (map (kept_node goes i h vs)) us → length (redirect f (arcs_in n (nodes_in us))) ≡ length (nodes_in ys)
  unfolding kept_node
  row-stands i h us vs ys f e =
      let kept = ap (λ (zs : List (Node S V)). length (nodes_in zs)) e ∙ mapped-nodes (kept_node goes i h vs) (λ x. unfold redirected in refl) us in
      omega (arith, kept, redirect-length f (arcs_in n (nodes_in us)), arcs-many n (nodes_in us))

  pub kept-arranged : (i k : ℕ) (xs : List (Node S V)) → Arranged W (arcs_of_layers n (layers W k xs)) xs → RangedAll (arcs_of_layers n (layers W k xs)) → Ended k xs
      → Arranged W (Filtered i k xs) (kept_from goes W i k xs) × Standing W (Filtered i k xs) (kept_from goes W i k xs)
  unfolding kept_arcs kept_from
  kept-arranged i zero xs e g s = (e, tt)
  kept-arranged i (suc zero) xs e g s =
      let us = take W xs in
      let vs = drop W xs in
      let L = arcs_in n (nodes_in us) in
      let row = kept_row i 1 1 us vs (row-short us L e.0) e.0 (λ a j b t. let z = s a j b t in let y = g.0 a j b t in omega arith) in
      let f = front-row (on_nodes (map (kept_node goes i 1 vs)) us) (drop W xs) _ row in
      ((ap (map arcs_of) f.0 ∙ row, subst (Arranged W []) (sym f.1) e.1), (row-stands i 1 us vs _ (Left i 1 us (take 1 vs)) f.0, tt))
  kept-arranged i (suc (suc k)) xs e g s =
      let us = take W xs in
      let vs = drop W xs in
      let L = arcs_in n (nodes_in us) in
      let row = kept_row i (suc (suc k)) W us vs (row-short us L e.0) e.0 (λ a j b t. let y = g.0 a j b t in omega (arith, row-wide k (drop W xs))) in
      let rest = kept_from goes W (suc i) (suc k) (drop W xs) in
      let f = front-row (on_nodes (map (kept_node goes i (suc (suc k)) vs)) us) rest _ row in
      let last : suc (suc k) - 1 ≡ suc (suc k - 1) = omega arith in
      let later = kept-arranged (suc i) (suc k) (drop W xs) e.1 g.1 (λ a j b t. s a j b (ap (λ (l : ℕ). target (node (get_or (arcs_of_layers n (layers W (suc (suc k)) xs)) l []) a) j) last ∙ t)) in
      let deep = length (arcs_of_layers n (layers W (suc k) (drop W xs))) in
      let h : suc (suc k) ≡ suc deep = ap suc (sym (drawn-deep n W (suc k) (drop W xs))) in (
        (ap (map arcs_of) f.0 ∙ row ∙ ap (λ (h : ℕ). table W (arcs_at (redirect (Left i h us (take W vs)) L))) h, subst (Arranged W (Filtered (suc i) (suc k) (drop W xs))) (sym f.1) later.0),
        (row-stands i (suc (suc k)) us vs _ (Left i (suc deep) us (take W vs)) f.0, subst (Standing W (Filtered (suc i) (suc k) (drop W xs))) (sym f.1) later.1),
      )

  -- what follows the layers stays
  pub kept-tail : (i k : ℕ) (xs : List (Node S V)) → k * W ≤ length xs → (length (kept_from goes W i k xs) ≡ length xs) × (drop (k * W) (kept_from goes W i k xs) ≡ drop (k * W) xs)
  unfolding kept_from
  kept-tail i zero xs h = (refl, refl)
  kept-tail i (suc k) xs h =
      let us = take W xs in
      let f = kept_node goes i (suc k) (drop W xs) in
      let row = on_nodes (map f) us in
      let rest = kept_from goes W (suc i) k (drop W xs) in
      let e : suc k * W ≡ W + k * W = omega (arith, suc-mul k W) in
      let long : length row ≡ W = mapped-long f us ∙ length-take-le W xs (omega (arith, e)) in
      let ih = kept-tail (suc i) k (drop W xs) (omega (arith, e, length-drop W xs)) in (
        omega (arith, e, length-append row rest, long, ih.0, length-drop W xs),
        ap (λ (m : ℕ). drop m (row ++ rest)) e ∙ sym (drop-drop (k * W) W (row ++ rest)) ∙ ap (drop (k * W)) (drop_at row rest W long) ∙ ih.1 ∙ drop-drop (k * W) W xs ∙ ap (λ (m : ℕ). drop m xs) (sym e),
      )

-- and is not tidied either
pub kept-later : {S V : Type 0} (goes : ℕ → ℕ → ℕ → Option (Down S V) → Option Up → Bool) (n W : ℕ) (z : Node S V) (xs : List (Node S V)) → n * W ≤ length xs
    → drop (n * W) (tidied W z n first_mark (kept_from goes W 0 n xs)) ≡ drop (n * W) xs
kept-later goes n W z xs h = let t = kept-tail n goes W 0 n xs h in tail-is W z n first_mark (kept_from goes W 0 n xs) (omega (arith, t.0)) ∙ t.1
