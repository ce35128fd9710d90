-- Parting on arcs: the new node is a copy of an old one, its label too. So relabelling from the layer on finds what it rests on: the downward labels before the layer, and which places are in use.
use Rattle.std.proofs.Common.{◌≡◌, ℕ, zero, suc, ◌+◌, ◌*◌, ◌<◌, ◌≤◌, Bool, true, List, [], ◌∷◌, ◌++◌, map, length, get_or, take, drop, set, None, Option, sym, refl, ap, ◌∙◌, ap₂, ⊎_elim, append_assoc, drop-set-lt, suc-mul, zero-mul, take-add, arith}
use lib.Seq.{take-set-lt}
use Rattle.std.proofs.lemmas.Bool.{cases_eq}
use Rattle.std.proofs.lemmas.List.{take_at, drop_at, drop-drop, length-map, length-set, length-take, length-take-le, length-drop, get_or-map, get_or-take, get_or-set_same, get_or-set_other, get_or_past}
use Rattle.layers.specs.declared.node.Node.{Node}
use Rattle.layers.specs.declared.node.Label.{Label}
use Rattle.layers.specs.declared.node.Down.{Down}
use Rattle.layers.specs.Settings.{Setting}
use Rattle.layers.specs.Net.{table, Layer, Net, node, width}
use Rattle.layers.specs.Labels.{ups, first_labels, labels_next, first_arrival}
use Rattle.layers.specs.Records.{is_used, record_of_place, labelled_from, labelled_records}
use Rattle.layers.specs.Targets.{redirected}
use Rattle.layers.specs.Calls.{parted_arcs}
use Rattle.layers.proofs.Bridge.{Full, map-table, table-long}
use Rattle.layers.proofs.Flows.{table_at}
use Rattle.layers.proofs.Model.{or_blank}
use Rattle.layers.proofs.Standing.{full}
use Rattle.layers.proofs.Tied.{redirect-length}
use Rattle.layers.proofs.Ups.{ups-long}
use Rattle.layers.proofs.Ways.{length-snoc}
use Rattle.labels.specs.Passes.{part, arrivals, blank_node}
use Rattle.labels.proofs.Climbs.{down_of}
use Rattle.labels.proofs.Keeps.{each-kept}
use Rattle.labels.proofs.Laying.{split, one-more, front-of, back-of}
use Rattle.labels.proofs.Places.{Stands, Blank, Ready}
use Rattle.split.specs.Parted.{parted_to, parted_node, parted_second}
use Rattle.split.specs.Steps.{kept_first, parted_one}
use Rattle.split.proofs.DepthNet.{two-fit}
use Rattle.split.proofs.LayerWords.{KeptByParts}

module _ {S V : Type 0} (by : Setting S V) where
  abbrev w : ℕ
  w = by.width

  -- in each layer as many places are in use as the net has nodes, and the others have blank labels
  abbrev Placed : Net → List (Node S V) → Type 0
  Placed [] xs = Unit {0}
  Placed (L ∷ Ls) xs = Stands (Blank by) (length L) (take w xs) × Placed Ls (drop w xs)

  -- the first c layers have the downward labels of the net's, whose first layer has the labels labs
  abbrev Downs : ℕ → List (Option (Down S V)) → Net → List (Node S V) → Type 0
  Downs c labs [] xs = Unit {0}
  Downs zero labs (L ∷ Ls) xs = Unit {0}
  Downs (suc c) labs (L ∷ Ls) xs = (map down_of (take w xs) ≡ table w (λ b. or_blank by.rule by.tally (get_or labs b None))) × Downs c (labels_next by labs L (width Ls)) Ls (drop w xs)

  pub placed-ready : (Ls : Net) (xs : List (Node S V)) → Placed Ls xs → Ready by Ls xs
  placed-ready [] xs p = tt
  placed-ready (L ∷ Ls) xs p = ((length L, omega arith, p.0), placed-ready Ls (drop w xs) p.1)

  downs-same : (c : ℕ) (labs : List (Option (Down S V))) (Ls : Net) (xs ys : List (Node S V)) → c ≤ length Ls → Downs c labs Ls xs → Downs c labs Ls ys → map down_of (take (c * w) xs) ≡ map down_of (take (c * w) ys)
  downs-same zero labs Ls xs ys le p q = rw (zero-mul w) refl
  downs-same (suc c) labs [] xs ys le p q = absurd (omega arith)
  downs-same (suc c) labs (L ∷ Ls) xs ys le p q = rw (one-more c w, split down_of w (c * w) xs, split down_of w (c * w) ys) (ap₂ (λ us vs. us ++ vs) (p.0 ∙ sym q.0) (downs-same c _ Ls (drop w xs) (drop w ys) (omega arith) p.1 q.1))

  -- ---- of records that are laid out
  module _ (one : 1 ≤ w) (later : List (Node S V)) where
    placed-laid : (labs : List (Option (Down S V))) (Ls : Net) → Full by one labs Ls → Placed Ls (labelled_from by labs Ls ++ later)
    placed-laid labs [] h = tt
    placed-laid labs (L ∷ Ls) h =
        let us = ups by labs (L ∷ Ls) in
        let R = record_of_place by L labs us in
        let f = h.0.filled in
        rw (front-of by labs (L ∷ Ls) later, back-of by labs L Ls later) (
          (λ a d lt. rw (table_at w a R d (omega (arith, table-long w R)))
              ((λ l. let x = f.there a l in rw (x.1, f.lasting a x.0 x.1) refl), (λ ge. rw (get_or_past labs a None (omega (arith, f.long)), get_or_past us a None (omega (arith, ups-long by labs L Ls))) refl))),
          placed-laid (labels_next by labs L (width Ls)) Ls h.1,
        )

    downs-laid : (c : ℕ) (labs : List (Option (Down S V))) (Ls : Net) → Downs c labs Ls (labelled_from by labs Ls ++ later)
    downs-laid c labs [] = tt
    downs-laid zero labs (L ∷ Ls) = tt
    downs-laid (suc c) labs (L ∷ Ls) = rw (front-of by labs (L ∷ Ls) later, back-of by labs L Ls later) (map-table down_of w (record_of_place by L labs (ups by labs (L ∷ Ls))), downs-laid c (labels_next by labs L (width Ls)) Ls)

  -- ---- of records that are parted
  stands-redirected : (f : Label S V → ℕ → ℕ → ℕ) (m : ℕ) (us : List (Node S V)) → Stands (Blank by) m us → Stands (Blank by) m (map (λ u. redirected (f u.label) u) us)
  unfolding redirected
  stands-redirected f m us s a d lt =
      let g : Node S V → Node S V = λ u. redirected (f u.label) u in
      let in' : a < length us = omega (arith, length-map us g) in rw (get_or-map g us a d d in') (s a d in')

  stands-pushed : (m : ℕ) (us : List (Node S V)) (y : Node S V) → is_used y ≡ true → Stands (Blank by) m us → Stands (Blank by) (suc m) (set us m y)
  stands-pushed m us y on s a d lt =
      let in' : a < length us = omega (arith, length-set us m y) in
      ⊎_elim (λ e. rw (e, get_or-set_same us m y d (omega arith)) ((λ l. on), (λ ge. absurd (omega arith))))
      (λ ne. rw (get_or-set_other us m a y d ne) ((λ l. (s a d in').0 (omega arith)), (λ ge. (s a d in').1 (omega arith)))) (cases_eq a m)

  module _ (stays : Label S V → ℕ → Bool) (a m : ℕ) (z : Node S V) (ls : List (Option (Down S V))) where
    abbrev parted : ℕ → List (Node S V) → List (Node S V)
    parted d xs = take (d * w) xs ++ parted_second stays w a m (drop (d * w) xs) z

    same-width : (d : ℕ) (M : Layer) (Ls : Net) → width (parted_arcs by d a ls (M ∷ Ls)) ≡ length M
    unfolding parted_arcs
    same-width zero M [] = refl
    same-width zero M (N ∷ Ls) = redirect-length _ M
    same-width (suc d) M Ls = refl

    kept-parted : (d : ℕ) (labs : List (Option (Down S V))) (Ls : Net) (xs : List (Node S V)) → suc d < length Ls → m ≡ length (get_or Ls (suc d) []) → a < m → m < w → d * w + w + w ≤ length xs
        → Placed Ls xs → Downs (suc d) labs Ls xs → Placed (parted_arcs by d a ls Ls) (parted d xs) × Downs (suc d) labs (parted_arcs by d a ls Ls) (parted d xs)
    unfolding parted_arcs parted_second parted_node redirected
    kept-parted d labs [] xs deep em al ml le p q = absurd (omega arith)
    kept-parted d labs (L ∷ []) xs deep em al ml le p q = absurd (omega arith)
    kept-parted zero labs (L ∷ M ∷ Ls) xs deep em al ml le p q =
        let us = take w xs in
        let vs = drop w xs in
        let y = get_or vs a z in
        let A = map (parted_node stays a m) us in
        let none = zero-mul w in
        let many : length A ≡ w = length-map us (parted_node stays a m) ∙ length-take-le w xs (omega (arith, none)) in
        let on : is_used y ≡ true = ap is_used (sym (get_or-take w vs a z (omega arith))) ∙ (p.1.0 a z (omega (arith, none, length-take w vs, length-drop w xs))).0 (omega arith) in
        rw (none, take_at A (set vs m y) w many, drop_at A (set vs m y) w many, take-set-lt w vs m y ml, drop-set-lt w vs m y ml, redirect-length _ L, length-snoc M (node M a), ← em)
        ((stands-redirected (parted_to stays a m) (length L) us p.0, (stands-pushed m (take w vs) y on (rw em p.1.0), p.1.1)), (each-kept down_of (parted_node stays a m) (λ u. refl) us ∙ q.0, tt))
    kept-parted (suc d) labs (L ∷ M ∷ Ls) xs deep em al ml le p q =
        let e : suc d * w ≡ w + d * w = omega (arith, suc-mul d w) in
        let long = length-take-le w xs (omega (arith, e)) in
        let rest = parted d (drop w xs) in
        let again = kept-parted d (labels_next by labs L (length M)) (M ∷ Ls) (drop w xs) (omega arith) em al ml (omega (arith, e, length-drop w xs)) p.1 q.1 in
        rw (e, take-add w (d * w) xs, append_assoc (take w xs) (take (d * w) (drop w xs)) (parted_second stays w a m (drop (w + d * w) xs) z), ← drop-drop (d * w) w xs, take_at (take w xs) rest w long, drop_at (take w xs) rest w long, same-width d M Ls)
        ((p.0, again.0), (q.0, again.1))

  module _ (one : 1 ≤ w) (later : List (Node S V)) where
    -- what stands of the net Ls while layer d + 1 is parted
    pub record Kept (d : ℕ) (Ls : Net) (xs : List (Node S V)) : Type 0 where
      pub placed : Placed Ls xs
      pub downs : Downs (suc d) (first_labels by.rule by.tally) Ls xs

    pub kept-by-parts : (d : ℕ) → KeptByParts by one later (Kept d) d
    unfolding parted_one labelled_records
    kept-by-parts d =
        let first = first_labels by.rule by.tally in
        record {
          start = λ Ls p. record { placed = placed-laid one later first Ls (full by one later Ls p); downs = downs-laid one later (suc d) first Ls };
          step = λ a m ls Ls xs known p em al ml s.
              let room = two-fit w d by.round.n known.deep in
              let q = kept-parted (kept_first by (first_arrival (arrivals by (suc a) (part (d * w) w xs)))) a m (blank_node by.rule by.tally) ls d first Ls xs (omega (arith, known.deep, known.proper.deep)) em al ml (omega (arith, known.fit)) s.placed s.downs in
              record { placed = q.0; downs = q.1 };
        }

    -- so the labels before the layer are the net's
    pub kept-downs : (d : ℕ) (Ls : Net) (xs : List (Node S V)) → suc d ≤ length Ls → Kept d Ls xs → map down_of (take (suc d * w) xs) ≡ map down_of (take (suc d * w) (labelled_records by Ls ++ later))
    unfolding labelled_records
    kept-downs d Ls xs le k = let first = first_labels by.rule by.tally in downs-same (suc d) first Ls xs (labelled_from by first Ls ++ later) le k.downs (downs-laid one later (suc d) first Ls)
