-- Where the nodes stand in the flat list. Records of the shape of a diagram have lawful arcs, and lawful arcs that are laid out anew have that shape, and finishes in time.
use Rattle.std.proofs.Common.{◌≡◌, ℕ, zero, suc, ◌+◌, ◌-◌, ◌*◌, ◌<◌, ◌≤◌, cond, List, [], ◌∷◌, ◌++◌, map, length, get_or, take, drop, Some, None, Option, sym, refl, ap, ◌∙◌, inl, inr, ⊎_elim, suc-mul, suc-add, zero-add, arith, eqb, le_of_suc-le-suc, not-suc-le-zero, zero-mul, subst, append_assoc}
use lib.ListN.{length-map}
use Rattle.std.proofs.lemmas.Bool.Decides.{nat_tests}
use Rattle.std.proofs.lemmas.List.{length-take, length-take-le, drop-drop, drop_more, take-take, drop-take}
use Rattle.std.proofs.lemmas.Bool.{cases_lt}
use Rattle.round.specs.declared.table.Round.{Round}
use Rattle.layers.specs.declared.node.Node.{Node}
use Rattle.layers.specs.Net.{table, Outs, Layer, Net, node, target, width, count_doors, count_layer}
use Rattle.layers.specs.Lawful.{IsEven, IsLawful, IsRoomy, IsTied}
use Rattle.layers.specs.Labels.{first_labels, labels_next, end_up, leg, ups, first_label, arrival_over, merge}
use Rattle.layers.specs.Records.{end_ups, nodes_in, layers, arcs_in, arcs_of_layers, arcs_at, laid_arcs, arcs_read, record_of_place, labelled_from, labelled_records}
use Rattle.layers.specs.Calls.{arcs, layer, records_with, bound, value_in}
use Rattle.layers.specs.Shape.{targets_of, HasEnd, IsShaped, IsTimely}
use Rattle.layers.proofs.Flows.{within, EvenLayer, next-all, first-only}
use Rattle.layers.proofs.Bridge.{ups-end, Full, top, stood, table-long}
use Rattle.layers.proofs.Tidying.{tidied-same}
use Rattle.layers.proofs.Tied.{tidied-tied}
use Rattle.layers.proofs.Standing.{full, nodes-X, arcs-X, written}
use Rattle.layers.specs.Settings.{Setting}
use Rattle.layers.specs.declared.node.Down.{Down}
use Rattle.std.specs.List.{AllByRecursion as All}
use Rattle.std.proofs.ByRecursion.{All-append, All-take, All-drop, All-map}
use Rattle.round.proofs.Clocks.{clock-laws}
use Rattle.round.specs.Clock.{latest_finish}
use Rattle.layers.proofs.Ways.{leg-bound}
use Rattle.layers.proofs.Model.{or_blank}

module _ {S V : Type 0} (W : ℕ) where
  pub layer-at : (n i : ℕ) (xs : List (Node S V)) → i < n → get_or (layers W n xs) i [] ≡ nodes_in (take W (drop (i * W) xs))
  layer-at zero i xs h = absurd (not-suc-le-zero h)
  layer-at (suc n) zero xs h = ap (λ (q : ℕ). nodes_in (take W (drop q xs))) (sym (zero-mul W))
  layer-at (suc n) (suc i) xs h = layer-at n i (drop W xs) (le_of_suc-le-suc h) ∙ ap (λ (z : List (Node S V)). nodes_in (take W z)) (drop-drop (i * W) W xs ∙ ap (λ (q : ℕ). drop q xs) (omega (arith, suc-mul i W)))

  pub end-at : (n : ℕ) (xs : List (Node S V)) → get_or (layers W n xs) n [] ≡ nodes_in (take 1 (drop (n * W) xs))
  end-at zero xs = ap (λ (q : ℕ). nodes_in (take 1 (drop q xs))) (sym (zero-mul W))
  end-at (suc n) xs = end-at n (drop W xs) ∙ ap (λ (z : List (Node S V)). nodes_in (take 1 z)) (drop-drop (n * W) W xs ∙ ap (λ (q : ℕ). drop q xs) (omega (arith, suc-mul n W)))

-- the arcs of a layer are those of its nodes
pub drawn-at : {S V : Type 0} (n W k d : ℕ) (xs : List (Node S V)) → d < k → get_or (arcs_of_layers n (layers W k xs)) d [] ≡ arcs_in n (get_or (layers W k xs) d [])
drawn-at n W zero d xs lt = absurd (omega arith)
drawn-at n W (suc zero) zero xs lt = refl
drawn-at n W (suc zero) (suc d) xs lt = absurd (omega arith)
drawn-at n W (suc (suc k)) zero xs lt = refl
drawn-at n W (suc (suc k)) (suc d) xs lt = drawn-at n W (suc k) d (drop W xs) (omega arith)

-- the bound is read at the end's place
pub bound_at : {S V : Type 0} (n W : ℕ) (xs : List (Node S V)) (d : Node S V) → n * W < length xs
    → bound n W xs ≡ cond (eqb (get_or xs (n * W) d).label.down.lasts 0) None (Some (get_or xs (n * W) d).label.down.value)
unfolding bound
bound_at {S} {V} n W xs d h = ap value_in (end-at W n xs ∙ ap (λ (ys : List (Node S V)). nodes_in (take 1 ys)) (drop_more xs (n * W) d h)) ∙ grind arith

module _ {S V : Type 0} (n W : ℕ) (xs : List (Node S V)) (x : Node S V) (h : n * W < length xs) (is : x ≡ get_or xs (n * W) x) where
  pub bound-none : x.label.down.lasts ≡ 0 → None ≡ bound n W xs
  bound-none e = grind (arith, nat_tests, e, is, bound_at n W xs x h)

  pub bound_some : (x.label.down.lasts ≡ 0 → ⊥) → Some x.label.down.value ≡ bound n W xs
  bound_some e = grind (arith, nat_tests, e, is, bound_at n W xs x h)

-- ---- the nodes that stand are the first of their places
pub standing-at : {S V : Type 0} (us : List (Node S V)) (a : ℕ) (d : Node S V) → a < length (nodes_in us) → get_or (nodes_in us) a d ≡ get_or us a d
standing-at [] a d h = refl
standing-at (u ∷ us) a d h = grind (arith, h, standing-at us)

-- ---- depth and room
pub standing-short : {S V : Type 0} (us : List (Node S V)) → length (nodes_in us) ≤ length us
standing-short [] = omega arith
standing-short (u ∷ us) = grind (arith, standing-short us)

-- ---- what holds of each item
all-table : {A : Type 0} (P : A → Type 0) (m : ℕ) (f : ℕ → A) → ((k : ℕ) → P (f k)) → All P (table m f)
all-table P zero f h = tt
all-table P (suc m) f h = (h 0, all-table P m (λ k. f (suc k)) (λ k. h (suc k)))

-- of the first of them, and of those past the first
all-front : {A : Type 0} (P : A → Type 0) (w m : ℕ) (xs : List A) → w ≤ m → All P (take m xs) → All P (take w xs)
all-front P w m xs h a = rw (← (take-take w m xs h)) (All-take P w (take m xs) a)

all-rest : {A : Type 0} (P : A → Type 0) (w m : ℕ) (xs : List A) → All P (take (w + m) xs) → All P (take m (drop w xs))
all-rest P w m xs a = rw (← (drop-take w m xs)) (All-drop P w (take (w + m) xs) a)

module _ {S V : Type 0} (n W : ℕ) where
  pub drawn-deep : (k : ℕ) (xs : List (Node S V)) → length (arcs_of_layers n (layers W k xs)) ≡ k
  drawn-deep (suc (suc k)) xs = ap suc (drawn-deep (suc k) (drop W xs))
  drawn-deep k xs = refl

  arcs-short : (us : List (Node S V)) → length (arcs_in n (nodes_in (take W us))) ≤ W
  arcs-short us = omega (arith, length-map (nodes_in (take W us)) (λ (x : Node S V). take n x.arcs.to), standing-short (take W us), length-take W us)

  drawn-roomy : (k : ℕ) (xs : List (Node S V)) → IsRoomy W (arcs_of_layers n (layers W k xs))
  drawn-roomy zero xs = tt
  drawn-roomy (suc zero) xs = (arcs-short xs, tt)
  drawn-roomy (suc (suc k)) xs = (arcs-short xs, drawn-roomy (suc k) (drop W xs))

  -- ---- sixteen targets to a record, so n of them to a node
  abbrev Long : Node S V → Type 0
  Long x = length x.arcs.to ≡ 16

  arcs-even : (us : List (Node S V)) → n ≤ 16 → All Long us → EvenLayer n (arcs_in n (nodes_in us))
  arcs-even [] h l a k = absurd (omega arith)
  arcs-even (u ∷ us) h l a k = let z = length-take-le n u.arcs.to (omega (arith, h, l.0)) in grind (arith, k, z, arcs-even us h l.1)

  drawn-even : (k : ℕ) (xs : List (Node S V)) → n ≤ 16 → All Long (take (k * W + 1) xs) → IsEven n (arcs_of_layers n (layers W k xs))
  drawn-even zero xs h l = tt
  drawn-even (suc zero) xs h l = (arcs-even (take W xs) h (all-front Long W (suc 0 * W + 1) xs (omega (arith, suc-mul 0 W)) l), tt)
  drawn-even (suc (suc k)) xs h l =
      let m = suc k * W + 1 in
      let e : suc (suc k) * W + 1 ≡ W + m = omega (arith, suc-mul (suc k) W) in
      (arcs-even (take W xs) h (all-front Long W (suc (suc k) * W + 1) xs (omega (arith, e)) l), drawn-even (suc k) (drop W xs) h (all-rest Long W m xs (rw e at l)))

-- all of the laid arcs have sixteen targets
laid-sixteen : (W : ℕ) (Ls : Net) → All (λ ts. length ts ≡ 16) (targets_of (laid_arcs W Ls))
laid-sixteen W Ls = All-map (λ ts. length ts ≡ 16) (λ a. a.to) (laid_arcs W Ls) (each Ls)
  where
    each : (Ls : Net) → All (λ a. length a.to ≡ 16) (laid_arcs W Ls)
    each [] = (table-long 16 (λ k. get_or {A = ℕ} [] k 0), tt)
    each (L ∷ Ls) = All-append _ (table W (arcs_at L)) _ (all-table _ W (arcs_at L) (λ k. table-long 16 (λ i. get_or (get_or L k []) i 0))) (each Ls)

long-if : {S V : Type 0} (us : List (Node S V)) → All (λ ts. length ts ≡ 16) (targets_of (arcs_read us)) → All (λ x. length x.arcs.to ≡ 16) us
long-if [] h = tt
long-if (u ∷ us) h = (h.0, long-if us h.1)

-- ---- the arcs of records of that shape
module _ {S V : Type 0} (r : Round) (W : ℕ) (xs : List (Node S V)) where
  pub shaped-proper : IsShaped r.n W xs → IsLawful r.n W (arcs r.n W xs)
  shaped-proper s =
      let e = drawn-even r.n W r.n xs r.most (long-if (take (r.n * W + 1) xs) (rw s.written (laid-sixteen W (arcs r.n W xs)))) in
      grind (arith, s, e, drawn-deep r.n W r.n xs, drawn-roomy r.n W r.n xs, tidied-tied (arcs r.n W xs))

-- ---- an arc counts
doors-count : (ts : Outs) (k b : ℕ) → get_or ts k 0 ≡ suc b → 1 ≤ count_doors ts
unfolding count_doors
doors-count [] k b e = absurd (omega arith)
doors-count (t ∷ ts) k b e = grind (arith, e, doors-count ts (k - 1) b)

arc-counts : (L : Layer) (a j b : ℕ) → target (node L a) j ≡ suc b → 1 ≤ count_layer L
unfolding count_layer
arc-counts [] a j b e = absurd (grind (arith, e))
arc-counts (nd ∷ L) a j b e = grind (arith, e, doors-count nd (j - 1) b, arc-counts L (a - 1) j b)

doors-arc : (ts : Outs) → 1 ≤ count_doors ts → (k : ℕ) × (b : ℕ) × (get_or ts k 0 ≡ suc b)
unfolding count_doors
doors-arc [] h = absurd (omega arith)
doors-arc (zero ∷ ts) h = let q = doors-arc ts h in (suc q.0, q.1, q.2)
doors-arc (suc t ∷ ts) h = (0, t, refl)

counted-arc : (L : Layer) → 1 ≤ count_layer L → (a : ℕ) × (j : ℕ) × (b : ℕ) × (target (node L a) j ≡ suc b)
unfolding count_layer
counted-arc [] h = absurd (omega arith)
counted-arc (nd ∷ L) h = ⊎_elim
    (λ (few : count_doors nd < 1). let q = counted-arc L (omega arith) in (suc q.0, q.1, q.2, q.3))
    (λ (some : 1 ≤ count_doors nd). let q = doors-arc nd some in (0, suc q.0, q.1, q.2))
    (cases_lt (count_doors nd) 1)

-- ---- an arc to the end gives the end a label
module _ {S V : Type 0} (by : Setting S V) (w : 1 ≤ by.width) where
  end-stands : (labs : List (Option (Down S V))) (Ls : Net) (k : ℕ) → suc k ≡ length Ls → IsTied Ls → Full by w labs Ls → (a j b : ℕ) → target (node (get_or Ls k []) a) j ≡ suc b → length (get_or (stood by w labs Ls) (suc k) []) ≡ 1
  end-stands labs (L ∷ []) zero d t f a j b e =
      let z : b ≡ 0 = omega (arith, t a j b e) in
      let E = top by w (labels_next by labs L 1) [] in
      let lo = within (map (λ (x : Node S V). Some x.label.up) E) b end_up (f.0.tops a j b e ∙ ups-end by (labels_next by labs L 1) b z) in
      let hi = standing-short (record_of_place by [] (labels_next by labs L 1) (end_ups by (labels_next by labs L 1)) 0 ∷ []) in
      omega (arith, length-map E (λ (x : Node S V). Some x.label.up))
  end-stands labs (L ∷ M ∷ Ls) (suc k) d t f a j b e = end-stands (labels_next by labs L (length M)) (M ∷ Ls) k (omega arith) t.3 f.1 a j b e
  end-stands labs Ls k d t f a j b e = absurd (omega arith)

-- ---- the end's place is in use if an arc leads to it
pub ended-one : {S V : Type 0} (n W : ℕ) (xs : List (Node S V)) → HasEnd n W xs → (a j b : ℕ) → target (node (get_or (arcs n W xs) (n - 1) []) a) j ≡ suc b → length (layer n W n xs) ≡ 1
ended-one n W xs h a j b e =
    let some = arc-counts (get_or (arcs n W xs) (n - 1) []) a j b e in
    let at = ap (λ (N : List (Node _ _)). length N) (end-at W n xs) in
    let short = standing-short (take 1 (drop (n * W) xs)) in
    omega (arith, h, some, at, short, length-take 1 (drop (n * W) xs))

-- ---- arcs laid out anew
module _ {S V : Type 0} (by : Setting S V) (w : 1 ≤ by.width) (xs : List (Node S V)) (Ls : Net) (p : IsLawful by.round.n by.width Ls) where
  pub arcs-relaid : arcs by.round.n by.width (records_with by xs Ls) ≡ Ls
  unfolding records_with
  arcs-relaid = arcs-X by w (drop (by.round.n * by.width + 1) xs) Ls p

  stands-at-end : (a j b : ℕ) → target (node (get_or (arcs by.round.n by.width (records_with by xs Ls)) (by.round.n - 1) []) a) j ≡ suc b → length (layer by.round.n by.width by.round.n (records_with by xs Ls)) ≡ 1
  unfolding records_with
  stands-at-end a j b e =
      let z : suc (by.round.n - 1) ≡ by.round.n = omega (arith, by.round.one) in
      let x = end-stands by w (first_labels by.rule by.tally) Ls (by.round.n - 1) (omega (arith, p.deep, by.round.one)) p.tied (full by w (drop (by.round.n * by.width + 1) xs) Ls p) a j b (rw (← arcs-relaid) e) in
      grind (arith, z, x, nodes-X by w (drop (by.round.n * by.width + 1) xs) Ls p)

  ended' : HasEnd by.round.n by.width (records_with by xs Ls)
  ended' = elim (cases_lt (count_layer (get_or (arcs by.round.n by.width (records_with by xs Ls)) (by.round.n - 1) [])) 1) [
    | inl none ↦ omega arith
    | inr some ↦ (let q = counted-arc (get_or (arcs by.round.n by.width (records_with by xs Ls)) (by.round.n - 1) []) some in let z = stands-at-end q.0 q.1 q.2 q.3 in omega arith)
  ]

  pub relaid-shaped : IsShaped by.round.n by.width (records_with by xs Ls)
  unfolding records_with
  relaid-shaped =
      let x = ap targets_of (written by w (drop (by.round.n * by.width + 1) xs) Ls p) in
      grind (arith, arcs-relaid, x, tidied-same Ls p.one_first p.tied, p, ended')

-- ---- lists
take_past : {A : Type 0} (m k : ℕ) (f : ℕ → A) (xs : List A) → take (m + k) (table m f ++ xs) ≡ table m f ++ take k xs
take_past zero k f xs = ap (λ (c : ℕ). take c xs) (zero-add k)
take_past (suc m) k f xs = rw (suc-add m k) (ap (λ (l : List _). f 0 ∷ l) (take_past m k (λ i. f (suc i)) xs))

most-at : {A : Type 0} (f : A → ℕ) (m : ℕ) (xs : List A) → All (λ x. f x ≤ m) xs → (k : ℕ) → get_or (map f xs) k 0 ≤ m
most-at f m [] h k = omega arith
most-at f m (x ∷ xs) h k = grind (arith, h, most-at f m xs)

module _ {S V : Type 0} (by : Setting S V) where
  -- ---- no finish of the labels is above what the clock allows after i steps
  unfoldable Soon : ℕ → List (Option (Down S V)) → Type 0
  Soon i labs = (a : ℕ) (l : Down S V) → get_or labs a None ≡ Some l → l.finish ≤ latest_finish i

  soon-first : Soon 0 (first_labels by.rule by.tally)
  unfolding Soon
  soon-first = first-only (first_label by.rule by.tally) (λ a l. l.finish ≤ latest_finish 0) (omega arith)

  soon-next : (i : ℕ) (labs : List (Option (Down S V))) (L : Layer) (count : ℕ) → Soon i labs → Soon (suc i) (labels_next by labs L count)
  unfolding Soon labels_next arrival_over merge
  soon-next i labs L count soon b m e = next-all (arrival_over by) (merge by.rule by.tally) labs L count b m (λ x. x.finish ≤ latest_finish (suc i)) (λ x y p q. omega arith)
      (λ a j l f g. (clock-laws by.round).bound i l.finish (leg by.round l.lasts j) j (soon a l g) (leg-bound by.round l.lasts j)) e

  -- a place of such a layer; a blank one has finish 0
  soon-place : (i : ℕ) (labs : List (Option (Down S V))) → i ≤ 15 → Soon i labs → (k : ℕ) → (or_blank by.rule by.tally (get_or labs k None)).finish ≤ latest_finish 15
  unfolding Soon
  soon-place i labs h soon k = grind (arith, h, soon k)

  -- ---- the places of all layers before the end, from layer i on
  abbrev Early : Node S V → Type 0
  Early x = x.label.down.finish ≤ latest_finish 15

  laid-early : (i : ℕ) (labs : List (Option (Down S V))) (Ls : Net) (later : List (Node S V)) → i + length Ls ≤ 16 → Soon i labs
      → All Early (take (length Ls * by.width) (labelled_from by labs Ls ++ later))
  unfolding labelled_from
  laid-early i labs [] later h soon = rw (zero-mul by.width) tt
  laid-early i labs (L ∷ Ls) later h soon =
      let f = record_of_place by L labs (ups by labs (L ∷ Ls)) in
      let X = labelled_from by (labels_next by labs L (width Ls)) Ls in
      let m = length Ls * by.width in
      let both : suc (length Ls) * by.width ≡ by.width + m = omega (arith, suc-mul (length Ls) by.width) in
      let split : take (suc (length Ls) * by.width) ((table by.width f ++ X) ++ later) ≡ table by.width f ++ take m (X ++ later) =
      ap (λ (c : ℕ). take c ((table by.width f ++ X) ++ later)) both ∙ ap (take (by.width + m)) (append_assoc (table by.width f) X later) ∙ take_past by.width m f (X ++ later) in
      rw split (All-append Early (table by.width f) (take m (X ++ later)) (all-table Early by.width f (soon-place i labs (omega arith) soon))
      (laid-early (suc i) (labels_next by labs L (width Ls)) Ls later (omega arith) (soon-next i labs L (width Ls) soon)))

-- the finishes of records that are laid out anew are in time
pub relaid-timely : {S V : Type 0} (by : Setting S V) (xs : List (Node S V)) (Ls : Net) → length Ls ≡ by.round.n → IsTimely by.round.n by.width (records_with by xs Ls)
unfolding records_with labelled_records
relaid-timely {S} {V} by xs Ls e =
    let ys = labelled_from by (first_labels by.rule by.tally) Ls ++ drop (by.round.n * by.width + 1) xs in
    most-at (λ (x : Node S V). x.label.down.finish) (latest_finish 15) (take (by.round.n * by.width) ys)
    (subst (λ (n : ℕ). All (Early by) (take (n * by.width) ys)) e
    (laid-early by 0 (first_labels by.rule by.tally) Ls (drop (by.round.n * by.width + 1) xs) (omega (arith, by.round.most)) (soon-first by)))
