-- The two passes over records with the arcs of a net leave the net laid out with its labels.
use Rattle.std.proofs.Common.{◌≡◌, ℕ, zero, suc, ◌+◌, ◌-◌, ◌*◌, ◌<◌, ◌≤◌, Bool, true, false, cond, not, eqb, List, [], ◌∷◌, ◌++◌, map, length, get_or, take, drop, Some, None, Option, sym, refl, ap, ◌∙◌, subst, ap₂, ⊎_elim, inl, append_assoc, suc-mul, zero-mul, add-one, arith}
use Rattle.std.specs.List.{range_with_len, flat_map}
use Rattle.round.specs.Clock.{latest_finish}
use Rattle.std.proofs.lemmas.List.FromFn.{get_or-map-range_with_len, length-map-range_with_len}
use Rattle.std.proofs.Math.Seq.{take-add}
use Rattle.std.proofs.lemmas.List.{map-append, same_lists, get_or-map, get_or_past, length-map, drop-drop, drop-map, drop-take, drop_at, take-map, take-take, take_at, length-take, length-take-le, length-drop, get_or-take, get_or-drop, get_or_append_left}
use Rattle.std.specs.Option.{is_some}
use Rattle.std.proofs.lemmas.Int.{ints}
use Rattle.std.proofs.lemmas.Simd.{map-map}
use Rattle.std.proofs.lemmas.Grind.{common_steps}
use Rattle.std.proofs.lemmas.Bool.{cases_lt, le-leb, cond-false}
use Rattle.layers.specs.declared.node.Arcs.{Arcs}
use Rattle.layers.specs.declared.node.Node.{Node}
use Rattle.layers.specs.declared.node.Down.{Down}
use Rattle.layers.specs.declared.node.Label.{Label}
use Rattle.layers.specs.declared.node.Up.{Up}
use Rattle.layers.specs.Net.{table, Layer, Net, node, target, width}
use Rattle.layers.specs.Flow.{arrivals_at, gather, next, climbs_of}
use Rattle.layers.specs.Lawful.{IsRanged, IsTied, IsRoomy, IsEven, IsLawful}
use Rattle.layers.specs.Labels.{leg, arrival_over, merge, first_label, first_labels, labels_next, climb, merge_up, end_up, no_up, lasts_of, ups}
use Rattle.layers.specs.Records.{is_used, nodes_in, ups_in, arcs_read, laid_arcs, arcs_at, record_of_place, end_ups, labelled_from, labelled_records}
use Rattle.layers.proofs.Flows.{Among, table_at, ins-from, next-some, gather-all}
use Rattle.layers.proofs.Bridge.{table-long, map-table, ups-full, ups-end, Fit, Full, Lasting, top, full-first}
use Rattle.layers.proofs.Lates.{ups_low}
use Rattle.layers.proofs.Ups.{ups-long}
use Rattle.layers.specs.Calls.{records_with}
use Rattle.layers.proofs.Proper.{RangedAll, tied-ranged}
use Rattle.labels.specs.Passes.{with_up, blank_node, by_door, from_node, arrivals, gathered, labelled, next_layer, up_by, ups_of, gathered_up, ended, renewed, begun, renewed_after, Early, HasDownsBefore, fits, below_steps, unused_label, HasPlaces, risen, risen_from, unlabelled, pass_up, relabelled_used, relabelled}
pub use Rattle.labels.proofs.Climbs.{arcs_of}
use Rattle.labels.proofs.Climbs.{down_of, up_of, bare, Linked, node-climbed, climbed-is}
use Rattle.labels.proofs.Inward.{arrivals-in, gathered-is}
use Rattle.labels.proofs.Legs.{leg_most}
use Rattle.labels.proofs.Rooms.{room-facts}
use Rattle.round.proofs.Clocks.{clock-laws}
use Rattle.labels.proofs.Keeps.{fronts, in-parts}
use Rattle.labels.proofs.Places.{next-is, end-is, Stands, Blank, Ready, renewed-map, idle-stays}
use Rattle.layers.proofs.Model.{or_blank, or_no_up}
use Rattle.layers.specs.Settings.{Setting}

-- ---- lists
pub table-list : {X : Type 0} (m : ℕ) (f : ℕ → X) (xs : List X) → length xs ≡ m → ((k : ℕ) (d : X) → k < m → get_or xs k d ≡ f k) → xs ≡ table m f
table-list m f xs e h = same_lists xs (table m f) (e ∙ sym (table-long m f)) (λ k d lt. h k d (omega arith) ∙ sym (table_at m k f d (omega arith)))

-- f of each is what g gives at its place
pub mapped-long : {X Y : Type 0} (f : X → Y) (g : ℕ → Y) (w : ℕ) (us : List X) → map f us ≡ table w g → length us ≡ w
mapped-long f g w us e = sym (length-map us f) ∙ ap length e ∙ table-long w g

pub mapped-at : {X Y : Type 0} (f : X → Y) (g : ℕ → Y) (w : ℕ) (us : List X) (a : ℕ) (d : X) → map f us ≡ table w g → a < w → f (get_or us a d) ≡ g a
mapped-at f g w us a d e lt = sym (get_or-map f us a d (g a) (omega (arith, mapped-long f g w us e))) ∙ ap (λ xs. get_or xs a (g a)) e ∙ table_at w a g (g a) lt

pub mapped-is : {X Y : Type 0} (f : X → Y) (g : ℕ → Y) (w : ℕ) (us : List X) → length us ≡ w → ((a : ℕ) (d : X) → a < w → f (get_or us a d) ≡ g a) → map f us ≡ table w g
mapped-is f g zero [] e h = refl
mapped-is f g zero (u ∷ us) e h = absurd (omega arith)
mapped-is f g (suc w) [] e h = absurd (omega arith)
mapped-is f g (suc w) (u ∷ us) e h = ap₂ (λ y ys. y ∷ ys) (h 0 u (omega arith)) (mapped-is f (λ k. g (suc k)) w us (omega arith) (λ a d lt. h (suc a) d (omega arith)))

-- what is gathered comes from some one
gather-any : {A : Type 0} (merge : A → A → A) (l : List A) (m : A) → gather merge l ≡ Some m → (x : A) × Among x l
unfolding gather
gather-any merge [] m e = absurd cc
gather-any merge (x ∷ l) m e = (x, inl refl)

-- ---- arcs alone
-- the arcs of the records are those of the net, w records to a layer, and the end's
abbrev pub Arranged : {S V : Type 0} → ℕ → Net → List (Node S V) → Type 0
Arranged w [] xs = map arcs_of (take 1 xs) ≡ table 1 (arcs_at [])
Arranged w (L ∷ Ls) xs = (map arcs_of (take w xs) ≡ table w (arcs_at L)) × Arranged w Ls (drop w xs)

-- what is asked of a net: few doors, few nodes, and no arc out of the next layer
abbrev pub Good : ℕ → Net → Type 0
Good w [] = Unit {0}
Good w (L ∷ Ls) = ((a : ℕ) → length (node L a) ≤ 16) × (length L ≤ w) × IsRanged L (width Ls) × Good w Ls

pub few : (n : ℕ) (L : Layer) → n ≤ 16 → ((a : ℕ) → a < length L → length (node L a) ≡ n) → (a : ℕ) → length (node L a) ≤ 16
few n L h e a = ⊎_elim (λ lt. omega (arith, e a lt)) (λ ge. let z = ap length (get_or_past L a [] ge) in omega arith) (cases_lt a (length L))

-- few doors, few nodes, and no arc out of the next layer
pub good-net : (n w : ℕ) (Ls : Net) → n ≤ 16 → IsEven n Ls → IsRoomy w Ls → RangedAll Ls → Good w Ls
good-net n w [] h even room t = tt
good-net n w (L ∷ Ls) h even room t = (few n L h even.0, room.0, t.0, good-net n w Ls h even.1 room.1 t.1)

-- ---- the flat list of arcs
pub split : {X Y : Type 0} (f : X → Y) (w m : ℕ) (xs : List X) → map f (take (w + m) xs) ≡ map f (take w xs) ++ map f (take m (drop w xs))
split f w m xs = ap (map f) (take-add w m xs) ∙ map-append f (take w xs) (take m (drop w xs))

-- what is seen of the front of a list, in two parts
halves : {X Y : Type 0} (g : X → Y) (n m : ℕ) (xs : List X) (zs : List Y) → map g (take (n + m) xs) ≡ zs → (map g (take n xs) ≡ take n zs) × (map g (take m (drop n xs)) ≡ drop n zs)
halves g n m xs zs e = (grind (arith, take-take n (n + m) xs, take-map g n (take (n + m) xs), e), grind (arith, drop-take n m xs, drop-map g n (take (n + m) xs), e))

pub arranged-of : {S V : Type 0} (w : ℕ) (Ls : Net) (xs : List (Node S V)) → length Ls * w + 1 ≤ length xs → arcs_read (take (length Ls * w + 1) xs) ≡ laid_arcs w Ls → Arranged w Ls xs
arranged-of w [] xs h e = let one : 1 ≡ 0 * w + 1 = omega (arith, zero-mul w) in ap (λ (k : ℕ). map arcs_of (take k xs)) one ∙ e
arranged-of w (L ∷ Ls) xs h e =
    let m = length Ls * w + 1 in
    let both : suc (length Ls) * w + 1 ≡ w + m = omega (arith, suc-mul (length Ls) w) in
    let long : length (table w (arcs_at L)) ≡ w = table-long w (arcs_at L) in
    let parts = halves arcs_of w m xs (table w (arcs_at L) ++ laid_arcs w Ls) (rw both at e) in
    (parts.0 ∙ take_at (table w (arcs_at L)) (laid_arcs w Ls) w long, arranged-of w Ls (drop w xs) (omega (arith, both, length-drop w xs)) (parts.1 ∙ drop_at (table w (arcs_at L)) (laid_arcs w Ls) w long))

-- so the list has room for them
arranged-room : {S V : Type 0} (w : ℕ) (Ls : Net) (xs : List (Node S V)) → Arranged w Ls xs → length Ls * w < length xs
arranged-room w [] xs arr = omega (arith, zero-mul w, mapped-long arcs_of (arcs_at []) 1 (take 1 xs) arr, length-take 1 xs)
arranged-room w (L ∷ Ls) xs arr = omega (arith, suc-mul (length Ls) w, mapped-long arcs_of (arcs_at L) w (take w xs) arr.0, arranged-room w Ls (drop w xs) arr.1, length-drop w xs)

-- and arcs are all that it looks at
arranged-same : {S V : Type 0} (w : ℕ) (Ls : Net) (xs ys : List (Node S V)) → map arcs_of xs ≡ map arcs_of ys → Arranged w Ls xs → Arranged w Ls ys
arranged-same w [] xs ys e arr = sym (fronts arcs_of 1 xs ys e) ∙ arr
arranged-same w (L ∷ Ls) xs ys e arr =
    (sym (fronts arcs_of w xs ys e) ∙ arr.0, arranged-same w Ls (drop w xs) (drop w ys) (sym (drop-map arcs_of w xs) ∙ ap (drop w) e ∙ drop-map arcs_of w ys) arr.1)

-- what stands past k layers of w and the end
abbrev past : {X : Type 0} → ℕ → ℕ → List X → List X
past w zero xs = drop 1 xs
past w (suc k) xs = past w k (drop w xs)

pub one-more : (k w : ℕ) → suc k * w ≡ w + k * w
one-more k w = omega (arith, suc-mul k w)

past-is : {X : Type 0} (w k : ℕ) (xs : List X) → past w k xs ≡ drop (k * w + 1) xs
past-is w zero xs = rw (zero-mul w) refl
past-is w (suc k) xs = past-is w k (drop w xs) ∙ drop-drop (k * w + 1) w xs ∙ ap (λ (i : ℕ). drop i xs) (omega (arith, one-more k w))

-- how many records the first of these layers has, and the layer
abbrev pub records : ℕ → Net → ℕ
records w [] = 1
records w (L ∷ Ls) = w

abbrev pub first : Net → Layer
first [] = []
first (L ∷ Ls) = L

module _ {S V : Type 0} (by : Setting S V) where
  -- the upward labels that the first of these layers is laid with
  abbrev pub first-ups : List (Option (Down S V)) → Net → List (Option Up)
  first-ups labs [] = end_ups by labs
  first-ups labs (L ∷ Ls) = ups by labs (L ∷ Ls)

  -- ---- the records of a net
  pub front-of : (labs : List (Option (Down S V))) (Ls : Net) (later : List (Node S V)) → take (records by.width Ls) (labelled_from by labs Ls ++ later) ≡ table (records by.width Ls) (record_of_place by (first Ls) labs (first-ups labs Ls))
  unfolding labelled_from
  front-of labs [] later = refl
  front-of labs (L ∷ Ls) later =
      let T = record_of_place by L labs (ups by labs (L ∷ Ls)) in
      rw (append_assoc (table by.width T) (labelled_from by (labels_next by labs L (width Ls)) Ls) later) (take_at (table by.width T) _ by.width (table-long by.width T))

  pub back-of : (labs : List (Option (Down S V))) (L : Layer) (Ls : Net) (later : List (Node S V)) → drop by.width (labelled_from by labs (L ∷ Ls) ++ later) ≡ labelled_from by (labels_next by labs L (width Ls)) Ls ++ later
  unfolding labelled_from
  back-of labs L Ls later =
      let T = record_of_place by L labs (ups by labs (L ∷ Ls)) in
      rw (append_assoc (table by.width T) (labelled_from by (labels_next by labs L (width Ls)) Ls) later) (drop_at (table by.width T) _ by.width (table-long by.width T))

  -- what g sees of layers in which it sees what it sees of the net's
  rows : {X : Type 0} (g : Node S V → X) (m : ℕ) (labs : List (Option (Down S V))) (L : Layer) (Ls : Net) (xs later : List (Node S V))
      → map g (take (suc m * by.width) xs) ≡ map g (take (suc m * by.width) (labelled_from by labs (L ∷ Ls) ++ later))
      → (map g (take by.width xs) ≡ table by.width (λ a. g (record_of_place by L labs (ups by labs (L ∷ Ls)) a)))
      × (map g (take (m * by.width) (drop by.width xs)) ≡ map g (take (m * by.width) (labelled_from by (labels_next by labs L (width Ls)) Ls ++ later)))
  rows g m labs L Ls xs later e =
      let Y = labelled_from by labs (L ∷ Ls) ++ later in
      let h = halves g by.width (m * by.width) xs (map g (take (by.width + m * by.width) Y)) (rw (one-more m by.width) at e) in
      let k = halves g by.width (m * by.width) Y (map g (take (by.width + m * by.width) Y)) refl in (
        h.0 ∙ sym k.0 ∙ ap (map g) (front-of labs (L ∷ Ls) later) ∙ map-table g by.width (record_of_place by L labs (ups by labs (L ∷ Ls))),
        h.1 ∙ sym k.1 ∙ ap (λ ys. map g (take (m * by.width) ys)) (back-of labs L Ls later),
      )

  -- ---- down
  bare-from : (t : ℕ) (us : List (Node S V)) → flat_map (from_node by t) (nodes_in (map bare us)) ≡ flat_map (from_node by t) (nodes_in us)
  unfolding from_node by_door
  bare-from t [] = refl
  bare-from t (u ∷ us) = grind (arith, common_steps, bare-from t us)

  next-label : (b m : ℕ) (labs : List (Option (Down S V))) (L : Layer) → IsRanged L m
      → or_blank by.rule by.tally (gather (merge by.rule by.tally) (arrivals_at (arrival_over by) b labs L)) ≡ or_blank by.rule by.tally (get_or (labels_next by labs L m) b None)
  unfolding labels_next next
  next-label b m labs L g =
      let f : ℕ → Option (Down S V) = λ b. gather (merge by.rule by.tally) (arrivals_at (arrival_over by) b labs L) in
      ap (or_blank by.rule by.tally)
      (⊎_elim (λ h. sym (table_at m b f None h)) (λ h. none h (f b) refl ∙ sym (get_or_past (table m f) b None (omega (arith, table-long m f)))) (cases_lt b m))
    where
      none : m ≤ b → (o : Option (Down S V)) → gather (merge by.rule by.tally) (arrivals_at (arrival_over by) b labs L) ≡ o → gather (merge by.rule by.tally) (arrivals_at (arrival_over by) b labs L) ≡ None
      none h None e = e
      none h (Some x) e =
          let i = gather-any (merge by.rule by.tally) (arrivals_at (arrival_over by) b labs L) x e in
          let f = ins-from (arrival_over by) b labs L i.0 i.1 in
          absurd (omega (arith, g f.source f.door b f.arc))

  -- no label has a finish past what the clock allows after e arcs
  abbrev Soon : ℕ → List (Option (Down S V)) → Type 0
  Soon e labs = (a : ℕ) (l : Down S V) → get_or labs a None ≡ Some l → l.finish ≤ latest_finish e

  arrive-soon : (k : ℕ) (u : Down S V) (j : ℕ) → u.finish ≤ latest_finish k → (arrival_over by u j).finish ≤ latest_finish (suc k)
  unfolding arrival_over
  arrive-soon k u j h = (clock-laws by.round).bound k u.finish (leg by.round u.lasts j) j h (leg_most by.round u.lasts j)

  soon-next : (e : ℕ) (labs : List (Option (Down S V))) (L : Layer) (m : ℕ) → Soon e labs → Soon (suc e) (labels_next by labs L m)
  unfolding labels_next merge
  soon-next e labs L m s a l q =
      gather-all (merge by.rule by.tally) (λ x. x.finish ≤ latest_finish (suc e)) (λ x y p q. omega arith) (arrivals_at (arrival_over by) a labs L) l
      (λ x i. let f = ins-from (arrival_over by) a labs L x i in rw f.is (arrive-soon e f.label f.door (s f.source f.label f.labelled)))
      (next-some (arrival_over by) (merge by.rule by.tally) labs L m a l q)

  soon-all : (e w : ℕ) (labs : List (Option (Down S V))) (L : Layer) (us : List (Node S V)) → e ≤ 15 → Soon e labs → map bare us ≡ table w (record_of_place by L labs [])
      → (a : ℕ) (d : Node S V) → a < length us → Early (latest_finish 15) (get_or us a d)
  soon-all e w labs L us le s is a d lt = grind (arith, common_steps, s a, mapped-at bare (record_of_place by L labs []) w us a d is (omega (arith, mapped-long bare (record_of_place by L labs []) w us is)))

-- ---- layers whose nodes have labels
module _ {S V : Type 0} (by : Setting S V) (wide : 1 ≤ by.width) where
  -- a layer as the pass down leaves it: the arcs and the labels of the net, and no upward label past its nodes
  record Front (w : ℕ) (labs : List (Option (Down S V))) (L : Layer) (us : List (Node S V)) : Type 0 where
    is : map bare us ≡ table w (record_of_place by L labs [])
    spare : (a : ℕ) (d : Node S V) → length L ≤ a → a < length us → (get_or us a d).label.up ≡ no_up

  front-long : (w : ℕ) (labs : List (Option (Down S V))) (L : Layer) (us : List (Node S V)) → Front w labs L us → length us ≡ w
  front-long w labs L us f = mapped-long bare (record_of_place by L labs []) w us f.is

  next-at : (us vs : List (Node S V)) (b : ℕ) (d : Node S V) → b < length vs → get_or (next_layer by us vs) b d ≡ labelled by us vs b
  unfolding next_layer
  next-at us vs b d lt = get_or-map-range_with_len (labelled by us vs) 0 (length vs) b b d lt (omega arith)

  -- the m records after the layer us
  next-block : (m : ℕ) (labs : List (Option (Down S V))) (L : Layer) (Ls : Net) (M : Layer) (us vs : List (Node S V)) → Fit by wide labs L Ls → IsTied (L ∷ Ls) → map bare us ≡ table by.width (record_of_place by L labs [])
      → map arcs_of vs ≡ table m (arcs_at M) → map bare (next_layer by us vs) ≡ table m (record_of_place by M (labels_next by labs L (width Ls)) [])
  unfolding next_layer labelled
  next-block m labs L Ls M us vs fit tied eu ev =
      let many : length vs ≡ m = mapped-long arcs_of (arcs_at M) m vs ev in
      mapped-is bare (record_of_place by M (labels_next by labs L (width Ls)) []) m (next_layer by us vs) (length-map-range_with_len (labelled by us vs) 0 (length vs) ∙ many)
      (λ b d h. ap bare (next-at us vs b d (omega arith))
      ∙ ap₂ (λ (a : Arcs) (l : Down S V). record { arcs = a; label = record { down = l; up = no_up } }) (mapped-at arcs_of (arcs_at M) m vs b (blank_node by.rule by.tally) ev h)
      (ap (λ (t : ℕ). gathered by.rule by.tally (arrivals by t (nodes_in us))) (add-one b)
      ∙ ap (gathered by.rule by.tally) (sym (bare-from by (suc b) us) ∙ ap (λ xs. flat_map (from_node by (suc b)) (nodes_in xs)) eu
      ∙ arrivals-in by b by.width labs L fit.filled.long fit.room (λ a lt. let l = fit.filled.there a lt in (l.0, l.1, fit.filled.lasting a l.0 l.1)) (few by.round.n L by.round.most fit.even))
      ∙ gathered-is by (arrivals_at (arrival_over by) b labs L) ∙ next-label by b (width Ls) labs L (tied-ranged (L ∷ Ls) tied).0))

  next-front : (labs : List (Option (Down S V))) (L M : Layer) (Ls : Net) (us vs : List (Node S V)) → Fit by wide labs L (M ∷ Ls) → IsTied (L ∷ M ∷ Ls) → Front by.width labs L us
      → map arcs_of vs ≡ table by.width (arcs_at M) → (m : ℕ) → m ≤ length M → Stands (Blank by) m vs → Front by.width (labels_next by labs L (length M)) M (next_layer by us vs)
  unfolding labelled
  next-front labs L M Ls us vs fit tied f arr m le blank =
      let is = next-block by.width labs L (M ∷ Ls) M us vs fit tied f.is arr in
      let long = mapped-long bare (record_of_place by M (labels_next by labs L (length M)) []) by.width (next_layer by us vs) is in
      record {
        is = is;
        spare = λ a d ge lt.
            ap up_of (next-at us vs a d (omega (arith, mapped-long arcs_of (arcs_at M) by.width vs arr))) ∙ ap (λ (l : Label S V). l.up) ((blank a (blank_node by.rule by.tally) (omega (arith, mapped-long arcs_of (arcs_at M) by.width vs arr))).1 (omega arith));
      }

  -- ---- up
  -- the end has one, where an arc leads to it
  end-led : (labs : List (Option (Down S V))) (b : ℕ) → b < 1 → get_or (ups_in (top by wide labs [])) b None ≡ get_or (ups by labs []) b None → get_or (ups by labs []) b None ≡ Some (or_no_up (get_or (end_ups by labs) b None))
  end-led labs zero lt e = sym e ∙ stands (is_used (record_of_place by [] labs (end_ups by labs) 0)) (record_of_place by [] labs (end_ups by labs) 0) end_up (e ∙ ups-end by labs 0 refl)
    where
      stands : (q : Bool) (x : Node S V) (u : Up) → get_or (ups_in (cond q (x ∷ []) [])) 0 None ≡ Some u → get_or (ups_in (cond q (x ∷ []) [])) 0 None ≡ Some x.label.up
      stands q x u e = grind (arith, common_steps)
  end-led labs (suc b) lt e = absurd (omega arith)

  -- an arc leads to a node with an upward label
  leads : (labs : List (Option (Down S V))) (L : Layer) (Ls : Net) → let labs' = labels_next by labs L (width Ls) in Full by wide labs (L ∷ Ls) → IsTied (L ∷ Ls) → (a j b : ℕ) → target (node L a) j ≡ suc b
      → (b < records by.width Ls) × (get_or (ups by labs' Ls) b None ≡ Some (or_no_up (get_or (first-ups by labs' Ls) b None)))
  leads labs L [] full tied a j b t = (tied a j b t, end-led (labels_next by labs L 1) b (tied a j b t) (full.0.tops a j b t))
  leads labs L (M ∷ Ls) full tied a j b t =
      let labs' = labels_next by labs L (length M) in
      let x = ups-full by labs' M Ls tied.2 tied.3 b (tied.0 a j b t) in (omega (arith, tied.0 a j b t, full.1.0.room), x.1 ∙ ap (λ o. Some (or_no_up o)) (sym x.1))

  same-lasts : (o : Option (Down S V)) → (or_blank by.rule by.tally o).lasts ≡ lasts_of o
  same-lasts None = refl
  same-lasts (Some l) = refl

  -- what climbs to place a: the lates are of so few layers that none is out of bounds
  node-ups : (labs : List (Option (Down S V))) (L : Layer) (Ls : Net) (a : ℕ) → let labs' = labels_next by labs L (width Ls) in length Ls ≤ 15 → Full by wide labs (L ∷ Ls) → IsTied (L ∷ Ls)
      → gathered_up (ups_of by.round (table (records by.width Ls) (record_of_place by (first Ls) labs' (first-ups by labs' Ls))) (record_of_place by L labs [] a)) ≡ or_no_up (get_or (ups by labs (L ∷ Ls)) a None)
  unfolding ups_of gathered_up ups
  node-ups labs L Ls a few-layers full tied =
      let r = records by.width Ls in
      let labs' = labels_next by labs L (width Ls) in
      let us = ups by labs' Ls in
      let up = first-ups by labs' Ls in
      let R = record_of_place by (first Ls) labs' up in
      let f = full.0.filled in
      let V = map up_of (table r R) in
      let at : (b : ℕ) → b < r → get_or V b no_up ≡ or_no_up (get_or up b None) = λ b lt. ap (λ ys. get_or ys b no_up) (map-table up_of r R) ∙ table_at r b (λ k. or_no_up (get_or up k None)) no_up lt in
      let linked : (j b : ℕ) → target (node L a) j ≡ suc b → Linked us V b = λ j b t.
      let x = leads labs L Ls full tied a j b t in
      let is : get_or us b None ≡ Some (get_or V b no_up) = x.1 ∙ ap Some (sym (at b x.0)) in
      (omega (arith, length-map (table r R) up_of, table-long r R, x.0), is, omega (arith, ints, ups_low by labs' Ls b (get_or V b no_up) is)) in
      let o = get_or labs a None in
      let F : ℕ → Option Up = λ m. gather merge_up (climbs_of (climb by.round m) us 1 (node L a)) in
      let X = flat_map (up_by by.round (table r R) (record_of_place by L labs [] a)) (range_with_len 0 16) in
      let flow : gathered_up X ≡ or_no_up (F (lasts_of o)) = climbed-is by.round (table r R) (record_of_place by L labs [] a)
      ∙ node-climbed by.round (or_blank by.rule by.tally o).lasts L us V a (few by.round.n L by.round.most full.0.even a) linked ∙ ap (λ m. or_no_up (F m)) (same-lasts o) in
      ⊎_elim (λ lt. let l = f.there a lt in ap gathered_up (cond-false (eqb (or_blank by.rule by.tally o).lasts 0) [] X (rw l.1 (f.lasting a l.0 l.1)))
      ∙ flow ∙ ap or_no_up (sym (table_at (length L) a (λ a. gather merge_up (climbs_of (climb by.round (lasts_of (get_or labs a None))) us 1 (node L a))) None lt)))
      (λ ge. rw (get_or_past labs a None (omega (arith, f.long)), get_or_past (ups by labs (L ∷ Ls)) a None (omega (arith, ups-long by labs L Ls))) refl)
      (cases_lt a (length L))

  -- a layer, and all after it that have their upward labels
  rise : (labs : List (Option (Down S V))) (L : Layer) (Ls : Net) (us R later : List (Node S V)) → Full by wide labs (L ∷ Ls) → IsTied (L ∷ Ls) → Front by.width labs L us → length Ls ≤ 15
      → R ≡ labelled_from by (labels_next by labs L (width Ls)) Ls ++ later → renewed (risen by.round (take (records by.width Ls) R)) us ++ R ≡ labelled_from by labs (L ∷ Ls) ++ later
  unfolding labelled_from risen ups_of up_by
  rise labs L Ls us R later full tied front few-layers e =
      let w = by.width in
      let f = full.0.filled in
      let B = record_of_place by L labs [] in
      let T = record_of_place by L labs (ups by labs (L ∷ Ls)) in
      let vs = table (records w Ls) (record_of_place by (first Ls) (labels_next by labs L (width Ls)) (first-ups by (labels_next by labs L (width Ls)) Ls)) in
      let long = mapped-long bare B w us front.is in
      let idle : Stands (λ x. (is_used x ≡ false) × (risen by.round vs x ≡ x)) (length L) us = λ a d lt.
      let at = mapped-at bare B w us a d front.is (omega (arith, long)) in (
        λ h. ap is_used at ∙ (let l = f.there a h in rw (l.1, f.lasting a l.0 l.1) refl),
        λ h. unfold risen in idle-stays by.round vs (get_or us a d) (ap (λ (x : Node S V). x.label.down.lasts) at ∙ ap (λ o. (or_blank by.rule by.tally o).lasts) (get_or_past labs a None (omega (arith, f.long)))) (front.spare a d h lt),
      ) in
      let risen-us : renewed (risen by.round vs) us ≡ table w T = renewed-map (risen by.round vs) (length L) us idle
      ∙ mapped-is (risen by.round vs) T w us long (λ a d h. ap (λ (y : Node S V). with_up y (gathered_up (ups_of by.round vs y))) (mapped-at bare B w us a d front.is h) ∙ ap (with_up (B a)) (node-ups labs L Ls a few-layers full tied)) in
      rw (e, front-of by (labels_next by labs L (width Ls)) Ls later, risen-us) (sym (append_assoc (table w T) (labelled_from by (labels_next by labs L (width Ls)) Ls) later))

  -- the end: what the pass down leaves, with its upward label
  end-laid : (labs : List (Option (Down S V))) (xs : List (Node S V)) → Lasting by wide labs → map bare xs ≡ table 1 (record_of_place by [] labs []) → map ended xs ≡ table 1 (record_of_place by [] labs (end_ups by labs))
  end-laid labs [] lasting e = absurd cc
  end-laid labs (x ∷ []) lasting e =
      let is : bare x ≡ record_of_place by [] labs [] 0 = cc in
      ap (λ y. y ∷ []) (ap ended is ∙ end-of (get_or labs 0 None) (λ l q. lasting 0 l q))
    where
      end-of : (o : Option (Down S V)) → ((l : Down S V) → o ≡ Some l → eqb l.lasts 0 ≡ false)
          → ended (record { arcs = arcs_at [] 0; label = record { down = or_blank by.rule by.tally o; up = no_up } }) ≡ record { arcs = arcs_at [] 0; label = record { down = or_blank by.rule by.tally o; up = or_no_up (get_or (cond (is_some o) (Some end_up ∷ []) []) 0 None) } }
      end-of None h = refl
      end-of (Some l) h = rw (h l refl) refl
  end-laid labs (x ∷ y ∷ xs) lasting e = absurd cc

  -- ---- both
  laid : (e : ℕ) (labs : List (Option (Down S V))) (L : Layer) (Ls : Net) (xs : List (Node S V)) → e + length Ls ≤ 15 → Full by wide labs (L ∷ Ls) → IsTied (L ∷ Ls) → Soon by e labs
      → Front by.width labs L (take by.width xs) → Arranged by.width Ls (drop by.width xs) → Ready by Ls (drop by.width xs)
      → risen_from by.round by.width (length Ls) (renewed_after by (length Ls) xs) ≡ labelled_from by labs (L ∷ Ls) ++ past by.width (suc (length Ls)) xs
  unfolding renewed_after risen_from labelled_from
  laid e labs L [] xs few full tied soon front arr ready =
      let w = by.width in
      let us = take w xs in
      let vs = take 1 (drop w xs) in
      let N = next_layer by us vs in
      let D = drop 1 (drop w xs) in
      let nb = next-block 1 labs L [] [] us vs full.0 tied front.is arr in
      let n-long = mapped-long bare (record_of_place by [] (labels_next by labs L 1) []) 1 N nb in
      rw (end-is by us (drop w xs) (soon-all by e w labs L us (omega arith) soon front.is), take_at us (N ++ D) w (front-long w labs L us front), drop_at us (N ++ D) w (front-long w labs L us front), take_at N D 1 n-long, drop_at N D 1 n-long, end-laid (labels_next by labs L 1) N full.1 nb)
      (rise labs L [] us (table 1 (record_of_place by [] (labels_next by labs L 1) (end_ups by (labels_next by labs L 1))) ++ D) D full tied front (omega arith) refl)
  laid e labs L (M ∷ Ls) xs few full tied soon front arr ready =
      let w = by.width in
      let us = take w xs in
      let vs = take w (drop w xs) in
      let N = next_layer by us vs in
      let D = drop w (drop w xs) in
      let next = next-front labs L M Ls us vs full.0 tied front arr.0 ready.0.0 ready.0.1 ready.0.2 in
      let n-long = front-long w (labels_next by labs L (length M)) M N next in
      let k = length Ls in
      let Z = renewed_after by k (N ++ D) in
      let ih = laid (suc e) (labels_next by labs L (length M)) M Ls (N ++ D) (omega arith) full.1 tied.3 (soon-next by e labs L (length M) soon)
      (rw (take_at N D w n-long) next) (rw (drop_at N D w n-long) arr.1) (rw (drop_at N D w n-long) ready.1) in
      rw (next-is by ready.0.0 us vs (soon-all by e w labs L us (omega arith) soon front.is) ready.0.2, take_at us Z w (front-long w labs L us front), drop_at us Z w (front-long w labs L us front))
      (rise labs L (M ∷ Ls) us (risen_from by.round w k Z) (past w k D) full tied front (omega arith) (ih ∙ ap (λ ys. labelled_from by (labels_next by labs L (length M)) (M ∷ Ls) ++ past w k ys) (drop_at N D w n-long)))

  -- from a layer on, where the labels of the d layers in front of it stand as they should, and k more are between it and the end
  abbrev below : ℕ → ℕ → List (Node S V) → List (Node S V)
  below zero k xs = renewed_after by k xs
  below (suc d) k xs = take by.width xs ++ below d k (drop by.width xs)

  below-is : (d k : ℕ) (xs : List (Node S V)) → below d k xs ≡ take (d * by.width) xs ++ renewed_after by k (drop (d * by.width) xs)
  below-is zero k xs = rw (zero-mul by.width) refl
  below-is (suc d) k xs =
      let w = by.width in
      rw (one-more d w, take-add w (d * w) xs, ← drop-drop (d * w) w xs, append_assoc (take w xs) (take (d * w) (drop w xs)) (renewed_after by k (drop (d * w) (drop w xs)))) (ap (λ ys. take w xs ++ ys) (below-is d k (drop w xs)))

  front-laid : (L : Layer) (Ls : Net) (labs : List (Option (Down S V))) (us : List (Node S V)) → map arcs_of us ≡ table by.width (arcs_at L)
      → map down_of us ≡ table by.width (λ a. down_of (record_of_place by L labs (ups by labs (L ∷ Ls)) a)) → (m : ℕ) → m ≤ length L → Stands (Blank by) m us → Front by.width labs L us
  front-laid L Ls labs us arr downs m le blank =
      let w = by.width in
      record {
        is = mapped-is bare (record_of_place by L labs []) w us (mapped-long arcs_of (arcs_at L) w us arr)
            (λ a d lt. ap₂ (λ (o : Arcs) (l : Down S V). record { arcs = o; label = record { down = l; up = no_up } }) (mapped-at arcs_of (arcs_at L) w us a d arr lt)
            (mapped-at down_of (λ a. down_of (record_of_place by L labs (ups by labs (L ∷ Ls)) a)) w us a d downs lt));
        spare = λ a d ge lt. ap (λ (l : Label S V). l.up) ((blank a d lt).1 (omega arith));
      }

  below-laid : (d k e : ℕ) (labs : List (Option (Down S V))) (L : Layer) (Ls : Net) (xs later : List (Node S V)) → length Ls ≡ d + k → e + (d + k) ≤ 15 → Full by wide labs (L ∷ Ls) → IsTied (L ∷ Ls) → Soon by e labs
      → Arranged by.width (L ∷ Ls) xs → Ready by (L ∷ Ls) xs → map down_of (take (suc d * by.width) xs) ≡ map down_of (take (suc d * by.width) (labelled_from by labs (L ∷ Ls) ++ later))
      → risen_from by.round by.width (d + k) (below d k xs) ≡ labelled_from by labs (L ∷ Ls) ++ past by.width (suc (d + k)) xs
  unfolding risen_from
  below-laid (suc d) k e labs L [] xs later q few full tied soon arr ready downs = absurd (omega arith)
  below-laid zero k e labs L Ls xs later q few full tied soon arr ready downs =
      let same : 0 + k ≡ length Ls = sym q in
      let less : k ≡ length Ls = omega arith in
      rw (same, less) (laid e labs L Ls xs (omega arith) full tied soon (front-laid L Ls labs (take by.width xs) arr.0 (rows by down_of 0 labs L Ls xs later downs).0 ready.0.0 ready.0.1 ready.0.2) arr.1 ready.1)
  below-laid (suc d) k e labs L (M ∷ Ls) xs later q few full tied soon arr ready downs =
      let w = by.width in
      let us = take w xs in
      let h = rows by down_of (suc d) labs L (M ∷ Ls) xs later downs in
      let front = front-laid L (M ∷ Ls) labs us arr.0 h.0 ready.0.0 ready.0.1 ready.0.2 in
      let Z = below d k (drop w xs) in
      let one : suc d + k ≡ suc (d + k) = omega arith in
      rw (one, take_at us Z w (front-long w labs L us front), drop_at us Z w (front-long w labs L us front))
      (rise labs L (M ∷ Ls) us (risen_from by.round w (d + k) Z) (past w (suc (d + k)) (drop w xs)) full tied front (omega arith)
      (below-laid d k (suc e) (labels_next by labs L (length M)) M Ls (drop w xs) later (omega arith) (omega arith) full.1 tied.3 (soon-next by e labs L (length M) soon) arr.1 ready.1 h.1))

  soon-first : Soon by 0 (first_labels by.rule by.tally)
  soon-first zero l e = let x : first_label by.rule by.tally ≡ l = cc in rw (← x) (omega arith)
  soon-first (suc a) l e = absurd cc

  -- the layer of the first node, begun
  front-begun : (w m : ℕ) (L : Layer) (xs : List (Node S V)) → 1 ≤ w → length L ≡ 1 → m ≤ 1 → Stands (Blank by) m (take w xs) → map arcs_of (take w xs) ≡ table w (arcs_at L)
      → Front w (first_labels by.rule by.tally) L (take w (begun by.rule by.tally xs)) × (drop w (begun by.rule by.tally xs) ≡ drop w xs)
  front-begun zero m L xs low one few s arr = absurd (omega arith)
  front-begun (suc w) m L [] low one few s arr = absurd cc
  front-begun (suc w) m L (x ∷ xs) low one few s arr =
      let here : x.arcs ≡ arcs_at L 0 = cc in
      let others : map arcs_of (take w xs) ≡ table w (λ k. arcs_at L (suc k)) = cc in
      let long = mapped-long arcs_of (λ k. arcs_at L (suc k)) w (take w xs) others in
      let made : Arcs → Down S V → Node S V = λ o l. record { arcs = o; label = record { down = l; up = no_up } } in (
        record {
          is = ap₂ (λ y ys. y ∷ ys) (ap (λ (o : Arcs). made o (first_label by.rule by.tally)) here)
              (mapped-is bare (λ k. record_of_place by L (first_labels by.rule by.tally) [] (suc k)) w (take w xs) long
              (λ a d lt. ap₂ made (mapped-at arcs_of (λ k. arcs_at L (suc k)) w (take w xs) a d others lt) (ap (λ (l : Label S V). l.down) ((s (suc a) d (omega (arith, long))).1 (omega arith)))));
          spare = spare;
        },
        refl,
      )
    where
      spare : (a : ℕ) (d : Node S V) → length L ≤ a → a < length (take (suc w) (begun by.rule by.tally (x ∷ xs))) → (get_or (take (suc w) (begun by.rule by.tally (x ∷ xs))) a d).label.up ≡ no_up
      spare zero d ge lt = absurd (omega arith)
      spare (suc a) d ge lt = ap (λ (l : Label S V). l.up) ((s (suc a) d lt).1 (omega arith))

  full-net : (L : Layer) (Ls : Net) → IsLawful by.round.n by.width (L ∷ Ls) → Full by wide (first_labels by.rule by.tally) (L ∷ Ls)
  full-net L Ls p = full-first by wide L Ls p.one_first p.tied p.roomy p.even

  -- places that are known
  used-if : {X : Type 0} (q : Bool) (l : X) → cond q (Some l) None ≡ None → not q ≡ true
  used-if q l e = grind (arith, common_steps)

  blank-if : {X : Type 0} (q : Bool) (l m : X) → cond q (Some l) None ≡ Some m → l ≡ m
  blank-if q l m e = grind (arith, common_steps)

  places-ready : (labs : List (Option (Down S V))) (Ls : Net) (xs later : List (Node S V)) → Full by wide labs Ls
      → map (unused_label by) (take (length Ls * by.width) xs) ≡ map (unused_label by) (take (length Ls * by.width) (labelled_from by labs Ls ++ later)) → Ready by Ls xs
  places-ready labs [] xs later full e = tt
  places-ready labs (L ∷ Ls) xs later full e =
      let us = take by.width xs in
      let g = unused_label by in
      let R = record_of_place by L labs (ups by labs (L ∷ Ls)) in
      let f = full.0.filled in
      let h = rows by g (length Ls) labs L Ls xs later e in (
        (
          length L,
          omega arith,
          λ a d lt.
              let at : g (get_or us a d) ≡ g (R a) = mapped-at g (λ a. g (R a)) by.width us a d h.0 (omega (arith, mapped-long g (λ a. g (R a)) by.width us h.0)) in (
                λ h. used-if (eqb (get_or us a d).label.down.lasts 0) (get_or us a d).label (at ∙ (let l = f.there a h in rw (l.1, f.lasting a l.0 l.1) refl)),
                λ h.
                    blank-if (eqb (get_or us a d).label.down.lasts 0) (get_or us a d).label _
                    (at ∙ rw (get_or_past labs a None (omega (arith, f.long)), get_or_past (ups by labs (L ∷ Ls)) a None (omega (arith, ups-long by labs L Ls))) refl),
              ),
        ),
        places-ready (labels_next by labs L (width Ls)) Ls (drop by.width xs) later full.1 h.1,
      )

-- ---- the calls, of arcs that a diagram may have
module _ {S V : Type 0} (by : Setting S V) where
  wide-of : (L : Layer) (Ls : Net) → IsLawful by.round.n by.width (L ∷ Ls) → 1 ≤ by.width
  wide-of L Ls p = let one : length L ≡ 1 = p.one_first in omega (arith, p.roomy.0)

  pub used-lawful : (Ls : Net) (xs : List (Node S V)) → IsLawful by.round.n by.width Ls → Arranged by.width Ls xs → Ready by Ls xs → relabelled_used by xs ≡ records_with by xs Ls
  unfolding records_with labelled_records relabelled_used pass_up
  used-lawful [] xs p arr ready = let none : 0 ≡ by.round.n = p.deep in absurd (omega (arith, by.round.one))
  used-lawful (L ∷ Ls) xs p arr ready =
      let w = by.width in
      let wide = wide-of L Ls p in
      let k = length Ls in
      let B = begun by.rule by.tally xs in
      let deep : suc k ≡ by.round.n = p.deep in
      let one : length L ≡ 1 = p.one_first in
      let f = front-begun by wide w ready.0.0 L xs wide one (omega (arith, ready.0.1)) ready.0.2 arr.0 in
      let less : by.round.n - 1 ≡ k = omega arith in
      rw less
      (laid by wide 0 (first_labels by.rule by.tally) L Ls B (omega (arith, by.round.most)) (full-net by wide L Ls p) p.tied (soon-first by wide) f.0 (rw f.1 arr.1) (rw f.1 ready.1)
      ∙ ap (λ ys. labelled_from by (first_labels by.rule by.tally) (L ∷ Ls) ++ ys) (ap (past w k) f.1 ∙ past-is w (suc k) xs ∙ ap (λ (n : ℕ). drop (n * w + 1) xs) deep))

  blank-ready : (Ls : Net) (xs : List (Node S V)) → ((a : ℕ) (d : Node S V) → a < length Ls * by.width → a < length xs → Blank by (get_or xs a d)) → Ready by Ls xs
  blank-ready [] xs h = tt
  blank-ready (L ∷ Ls) xs h =
      let more = one-more (length Ls) by.width in (
        (0, omega arith, λ a d lt. (λ l. absurd (omega arith), λ l. rw (get_or-take by.width xs a d (omega (arith, length-take by.width xs))) (h a d (omega (arith, more, length-take by.width xs)) (omega (arith, length-take by.width xs))))),
        blank-ready Ls (drop by.width xs) (λ a d lt in_list. rw (get_or-drop by.width xs a d) (h (by.width + a) d (omega (arith, more)) (omega (arith, length-drop by.width xs)))),
      )

  -- of arcs that a diagram may have
  pub relabelled-lawful : (Ls : Net) (xs : List (Node S V)) → IsLawful by.round.n by.width Ls → Arranged by.width Ls xs → relabelled by xs ≡ records_with by xs Ls
  unfolding relabelled records_with
  relabelled-lawful Ls xs p arr =
      let at = by.round.n * by.width in
      let f = unlabelled by.rule by.tally in
      let A = map f (take at xs) in
      let D = drop at xs in
      let many : length Ls * by.width ≡ at = ap (λ (k : ℕ). k * by.width) p.deep in
      let long : length A ≡ at = length-map (take at xs) f ∙ length-take-le at xs (omega (arith, many, arranged-room by.width Ls xs arr)) in
      let same : map arcs_of (A ++ D) ≡ map arcs_of xs = in-parts arcs_of at A D xs (map-map arcs_of f (take at xs)) refl in
      let ready = blank-ready Ls (A ++ D) (λ a d lt in_list. rw (get_or_append_left A D d a (omega (arith, many, long)), get_or-map f (take at xs) a d d (omega (arith, many, long, length-map (take at xs) f))) refl) in
      used-lawful Ls (A ++ D) p (arranged-same by.width Ls xs (A ++ D) (sym same) arr) ready
      ∙ ap (λ ys. labelled_records by Ls ++ ys) (sym (drop-drop 1 at (A ++ D)) ∙ ap (drop 1) (drop_at A D at long) ∙ drop-drop 1 at xs)

  -- the same, of the flat list of arcs
  read-arranged : (Ls : Net) (xs : List (Node S V)) → IsLawful by.round.n by.width Ls → by.round.n * by.width + 1 ≤ length xs → arcs_read (take (by.round.n * by.width + 1) xs) ≡ laid_arcs by.width Ls → Arranged by.width Ls xs
  read-arranged Ls xs p h e =
      let n : length Ls * by.width + 1 ≡ by.round.n * by.width + 1 = ap (λ (k : ℕ). k * by.width + 1) p.deep in
      arranged-of by.width Ls xs (omega (arith, n)) (ap (λ (k : ℕ). arcs_read (take k xs)) n ∙ e)

  pub has-ready : (Ls : Net) (xs : List (Node S V)) → IsLawful by.round.n by.width Ls → by.round.n * by.width + 1 ≤ length xs → HasPlaces by Ls xs → Ready by Ls xs
  unfolding records_with labelled_records
  has-ready [] xs p room has = tt
  has-ready (L ∷ Ls) xs p room has =
      let wide = wide-of L Ls p in
      let deep : by.round.n ≡ suc (length Ls) = sym p.deep in
      places-ready by wide (first_labels by.rule by.tally) (L ∷ Ls) xs (drop (by.round.n * by.width + 1) xs) (full-net by wide L Ls p)
      (subst (λ (k : ℕ). map (unused_label by) (take (k * by.width) xs) ≡ map (unused_label by) (take (k * by.width) (labelled_from by (first_labels by.rule by.tally) (L ∷ Ls) ++ drop (by.round.n * by.width + 1) xs))) deep has)

  pub below-lawful : (i : ℕ) (Ls : Net) (xs : List (Node S V)) → 1 ≤ i → i ≤ by.round.n → IsLawful by.round.n by.width Ls → Arranged by.width Ls xs → HasDownsBefore by i Ls xs → Ready by Ls xs
      → pass_up by.round by.width (take ((i - 1) * by.width) xs ++ renewed_after by (by.round.n - i) (drop ((i - 1) * by.width) xs)) ≡ records_with by xs Ls
  unfolding records_with labelled_records pass_up
  below-lawful i [] xs low high p arr down ready = let none : 0 ≡ by.round.n = p.deep in absurd (omega (arith, by.round.one))
  below-lawful i (L ∷ Ls) xs low high p arr down ready =
      let w = by.width in
      let n = by.round.n in
      let d = i - 1 in
      let k = n - i in
      let deep : suc (length Ls) ≡ n = p.deep in
      let wide = wide-of L Ls p in
      let back : i ≡ suc d = omega arith in
      let end : suc (d + k) ≡ n = omega arith in
      let less : n - 1 ≡ d + k = omega arith in
      rw (less, ← below-is by wide d k xs)
      (below-laid by wide d k 0 (first_labels by.rule by.tally) L Ls xs (drop (n * w + 1) xs) (omega arith) (omega (arith, by.round.most)) (full-net by wide L Ls p) p.tied (soon-first by wide) arr ready (rw (← back) down)
      ∙ ap (λ ys. labelled_from by (first_labels by.rule by.tally) (L ∷ Ls) ++ ys) (past-is w (suc (d + k)) xs ∙ ap (λ (m : ℕ). drop (m * w + 1) xs) end))

  -- ---- of the list that is lent
  pub below_laid : (i : ℕ) (Ls : Net) (xs : List (Node S V)) → fits by.round.n by.width (length xs) ≡ true → 1 ≤ i → i ≤ by.round.n → IsLawful by.round.n by.width Ls
      → arcs_read (take (by.round.n * by.width + 1) xs) ≡ laid_arcs by.width Ls → HasDownsBefore by i Ls xs → HasPlaces by Ls xs → below_steps by i xs ≡ records_with by xs Ls
  unfolding below_steps
  below_laid i Ls xs fit low high p e downs has =
      let room = (room-facts by.round.n by.width (length xs) fit).enough in
      rw (fit, le-leb 1 i low, le-leb i by.round.n high) (below-lawful i Ls xs low high p (read-arranged Ls xs p room e) downs (has-ready Ls xs p room has))

  pub used_read : (Ls : Net) (xs : List (Node S V)) → fits by.round.n by.width (length xs) ≡ true → IsLawful by.round.n by.width Ls
      → arcs_read (take (by.round.n * by.width + 1) xs) ≡ laid_arcs by.width Ls → HasPlaces by Ls xs → relabelled_used by xs ≡ records_with by xs Ls
  used_read Ls xs fit p e has =
      let room = (room-facts by.round.n by.width (length xs) fit).enough in
      used-lawful Ls xs p (read-arranged Ls xs p room e) (has-ready Ls xs p room has)

  pub relabelled_read : (Ls : Net) (xs : List (Node S V)) → fits by.round.n by.width (length xs) ≡ true → IsLawful by.round.n by.width Ls
      → arcs_read (take (by.round.n * by.width + 1) xs) ≡ laid_arcs by.width Ls → relabelled by xs ≡ records_with by xs Ls
  relabelled_read Ls xs fit p e = relabelled-lawful Ls xs p (read-arranged Ls xs p (room-facts by.round.n by.width (length xs) fit).enough e)
