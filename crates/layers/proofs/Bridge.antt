-- What stands in records that were laid: their arcs can be read back, and the labels that stand are those worked out from the arcs.
use Rattle.std.proofs.Common.{◌≡◌, ℕ, zero, suc, ◌+◌, ◌*◌, ◌<◌, ◌≤◌, Bool, true, false, cond, eqb, List, [], ◌∷◌, ◌++◌, map, length, get_or, take, drop, Some, None, Option, sym, refl, ap, ◌∙◌, ap₂, append_assoc, le_of_suc-le-suc, not-suc-le-zero, suc-mul, zero-mul, arith, length-append}
use Rattle.std.proofs.lemmas.Bool.{ne_eqb}
use Rattle.std.proofs.lemmas.List.{drop_at, take_at}
use Rattle.doors.specs.Sets.{has}
use Rattle.layers.specs.declared.node.Node.{Node}
use Rattle.layers.specs.declared.node.Up.{Up}
use Rattle.layers.specs.Net.{table, Outs, Layer, Net, node, target, width, redirect}
use Rattle.layers.specs.Flow.{arrivals_at, gather, next, end_label}
use Rattle.layers.specs.Lawful.{IsLed, IsTied, IsRoomy}
use Rattle.layers.specs.Labels.{first_label, first_labels, arrival_over, merge, labels_next, end_up, ups}
use Rattle.layers.specs.Records.{end_ups, is_used, nodes_in, layers, arcs_in, downs_in, ups_in, arcs_of_layers, padded_targets, record_of_place, labelled_from, labelled_records}
use Rattle.layers.specs.Calls.{in_arcs_agree, value_in, labels_in, LayerLabels, kept_arcs}
use Rattle.layers.proofs.Flows.{first-only, next-all, next-at, table_at, has-arc}
use Rattle.layers.proofs.Ups.{ups-at}
use Rattle.layers.proofs.Ways.{or_left, one-self, none_has}
use Rattle.layers.proofs.Model.{kept, agrees, valueO, or_blank, or_no_up, labels_at}
use Rattle.layers.proofs.Tied.{redirect-cong}
use Rattle.layers.specs.Settings.{Setting}
use Rattle.layers.specs.declared.node.Down.{Down}
pub use Rattle.layers.specs.Lawful.{IsEven}
pub use Rattle.layers.proofs.Flows.{table-long}

module _ {S V : Type 0} (by : Setting S V) (w : 1 ≤ by.width) where
  -- so every node has a label, from below and from above
  pub labels_full : (labs : List (Option (Down S V))) (L M : Layer) (Ls : Net) → IsTied (L ∷ M ∷ Ls) → ((a : ℕ) → a < length L → (l : Down S V) × (get_or labs a None ≡ Some l))
      → (b : ℕ) → b < length M → (m : Down S V) × (get_or (labels_next by labs L (length M)) b None ≡ Some m)
  unfolding labels_next
  labels_full labs L M Ls t f b h =
      let s = t.1 b h in
      let l = f s.0 (has-arc L s.0 s.1 b s.2) in
      let n = next-at {A = Down S V} (merge by.rule by.tally) (λ x. Unit {0}) (λ x y p. tt) (λ x y p. tt) (arrival_over by) labs L (length M) s.0 s.1 b l.0 s.2 l.1 h tt in (n.0, n.1)

pub ups-end : {S V : Type 0} (by : Setting S V) (labs : List (Option (Down S V))) (b : ℕ) → b ≡ 0 → get_or (ups by labs []) b None ≡ Some end_up
unfolding ups
ups-end by labs b e = ap (λ (k : ℕ). get_or {A = Option Up} (Some end_up ∷ []) k None) e

pub ups-full : {S V : Type 0} (by : Setting S V) (labs : List (Option (Down S V))) (M : Layer) (Ls : Net) → IsLed M → IsTied (M ∷ Ls) → (a : ℕ) → a < length M → (u : Up) × (get_or (ups by labs (M ∷ Ls)) a None ≡ Some u)
ups-full by labs M [] led t a h =
    let s = led a h in
    let q = ups-at by labs M [] (λ x. Unit {0}) (λ x y p. tt) (λ x y p. tt) a s.0 s.1 end_up s.2 (ups-end by (labels_next by labs M 1) s.1 (omega (arith, t a s.0 s.1 s.2))) tt in (q.0, q.1)
ups-full by labs M (N ∷ Ls) led t a h =
    let s = led a h in
    let x = ups-full by (labels_next by labs M (length N)) N Ls t.2 t.3 s.1 (t.0 a s.0 s.1 s.2) in
    let q = ups-at by labs M (N ∷ Ls) (λ x. Unit {0}) (λ x y p. tt) (λ x y p. tt) a s.0 s.1 x.0 s.2 x.1 tt in (q.0, q.1)

-- ---- tables
pub map-table : {A B : Type 0} (f : A → B) (m : ℕ) (g : ℕ → A) → map f (table m g) ≡ table m (λ k. f (g k))
map-table f zero g = refl
map-table f (suc m) g = ap (λ (x : List _). f (g 0) ∷ x) (map-table f m (λ k. g (suc k)))

pub table-ext : {A : Type 0} (m : ℕ) (f g : ℕ → A) → ((k : ℕ) → k < m → f k ≡ g k) → table m f ≡ table m g
table-ext zero f g h = refl
table-ext (suc m) f g h = ap₂ (λ (x : _) (y : List _). x ∷ y) (h 0 (omega arith)) (table-ext m (λ k. f (suc k)) (λ k. g (suc k)) (λ k q. h (suc k) (omega arith)))

table-back : {A : Type 0} (d : A) (xs : List A) → table (length xs) (λ k. get_or xs k d) ≡ xs
table-back d [] = refl
table-back d (x ∷ xs) = ap (λ (z : List _). x ∷ z) (table-back d xs)

table-end : {A : Type 0} (m : ℕ) (f : ℕ → Option A) → get_or (table m f) m None ≡ None
table-end zero f = refl
table-end (suc m) f = table-end m (λ k. f (suc k))

pad-back : (n m : ℕ) (nd : Outs) → length nd ≡ n → n ≤ m → take n (table m (λ k. get_or nd k 0)) ≡ nd
pad-back zero m [] e h = refl
pad-back (suc n) (suc m) (t ∷ nd) e h = ap (λ (x : Outs). t ∷ x) (pad-back n m nd (omega arith) (le_of_suc-le-suc h))
pad-back n m nd e h = absurd (omega arith)

-- the nodes of a layer, out of its W places
stand-table : {S V : Type 0} (W m : ℕ) (f : ℕ → Node S V) → m ≤ W → ((k : ℕ) → k < m → is_used (f k) ≡ true) → (m < W → is_used (f m) ≡ false) → nodes_in (table W f) ≡ table m f
stand-table zero zero f h on off = refl
stand-table zero (suc m) f h on off = absurd (not-suc-le-zero h)
stand-table (suc W) zero f h on off = ap (λ (q : Bool). cond q (f 0 ∷ nodes_in (table W (λ k. f (suc k)))) []) (off (omega arith))
stand-table (suc W) (suc m) f h on off =
    rw (on 0 (omega arith)) (ap (λ (z : List (Node _ _)). f 0 ∷ z) (stand-table W m (λ k. f (suc k)) (le_of_suc-le-suc h) (λ k q. on (suc k) (omega arith)) (λ q. off (omega arith))))

module _ {S V : Type 0} (by : Setting S V) (w : 1 ≤ by.width) where
  abbrev pub Labs : Type 0
  Labs = List (Option (Down S V))

  abbrev pub Lasting : Labs → Type 0
  Lasting labs = (a : ℕ) (l : Down S V) → get_or labs a None ≡ Some l → eqb l.lasts 0 ≡ false

  -- labels of a layer: one for each node, with a last door, and none beyond
  pub record Filled (labs : Labs) (m : ℕ) : Type 0 where
    pub there : (a : ℕ) → a < m → (l : Down S V) × (get_or labs a None ≡ Some l)
    pub beyond : get_or labs m None ≡ None
    pub long : length labs ≡ m
    pub lasting : Lasting labs

  filled-first : Filled (first_labels by.rule by.tally) 1
  filled-first =
      let t : (a : ℕ) → a < 1 → (l : Down S V) × (get_or (first_labels by.rule by.tally) a None ≡ Some l) = λ a h. let z : a ≡ 0 = omega arith in (first_label by.rule by.tally, rw z) in
      grind (arith, t, first-only (first_label by.rule by.tally) (λ a l. eqb l.lasts 0 ≡ false) refl)

  lasting-next : (labs : Labs) (L : Layer) (count : ℕ) → Lasting (labels_next by labs L count)
  unfolding labels_next arrival_over merge
  lasting-next labs L count a l e =
      let q = next-all (arrival_over by) (merge by.rule by.tally) labs L count a l (λ x. (j : ℕ) × (has x.lasts j ≡ true)) (λ x y p q. (p.0, or_left x.lasts y.lasts p.0 p.1)) (λ s j l f g. (j, one-self j)) e in
      ne_eqb l.lasts 0 (λ z. none_has q.0 (rw (← z) q.1))

  filled_next : (labs : Labs) (L M : Layer) (Ls : Net) → IsTied (L ∷ M ∷ Ls) → Filled labs (length L) → Filled (labels_next by labs L (length M)) (length M)
  unfolding labels_next next
  filled_next labs L M Ls t f =
      let g : ℕ → Option (Down S V) = λ b. gather (merge by.rule by.tally) (arrivals_at (arrival_over by) b labs L) in
      grind (arith, labels_full by w labs L M Ls t f.there, table-end (length M) g, table-long (length M) g, lasting-next labs L (length M))

  -- ---- the nodes that stand, by layers
  abbrev pub top : Labs → Net → List (Node S V)
  top labs [] = nodes_in (record_of_place by [] labs (end_ups by labs) 0 ∷ [])
  top labs (L ∷ Ls) = table (length L) (record_of_place by L labs (ups by labs (L ∷ Ls)))

  abbrev pub rest : Labs → Net → List (List (Node S V))
  rest labs [] = []
  rest labs (L ∷ Ls) = let labs' = labels_next by labs L (width Ls) in top labs' Ls ∷ rest labs' Ls

  abbrev pub stood : Labs → Net → List (List (Node S V))
  stood labs Ls = top labs Ls ∷ rest labs Ls

  -- what makes them so
  pub record Fit (labs : Labs) (L : Layer) (Ls : Net) : Type 0 where
    pub filled : Filled labs (length L)
    pub room : length L ≤ by.width
    pub even : (a : ℕ) → a < length L → length (node L a) ≡ by.round.n
    pub tops : let labs' = labels_next by labs L (width Ls) in (a j b : ℕ) → target (node L a) j ≡ suc b → get_or (ups_in (top labs' Ls)) b None ≡ get_or (ups by labs' Ls) b None

  abbrev pub Full : Labs → Net → Type 0
  Full labs [] = Lasting labs
  Full labs (L ∷ Ls) = Fit labs L Ls × Full (labels_next by labs L (width Ls)) Ls

  -- ---- a layer
  row-arcs : (labs : Labs) (L : Layer) (Ls : Net) → Fit labs L Ls → arcs_in by.round.n (top labs (L ∷ Ls)) ≡ L
  row-arcs labs L Ls f =
      map-table (λ (x : Node S V). take by.round.n x.arcs.to) (length L) (record_of_place by L labs (ups by labs (L ∷ Ls)))
      ∙ table-ext (length L) _ (λ k. get_or L k []) (λ k h. pad-back by.round.n 16 (node L k) (f.even k h) by.round.most) ∙ table-back [] L

  row-downs : (labs : Labs) (L : Layer) (Ls : Net) → Fit labs L Ls → downs_in (top labs (L ∷ Ls)) ≡ labs
  row-downs labs L Ls f =
      map-table (λ (x : Node S V). Some x.label.down) (length L) (record_of_place by L labs (ups by labs (L ∷ Ls)))
      ∙ table-ext (length L) _ (λ k. get_or labs k None) (λ k h. let x = f.filled.there k h in ap (λ (o : Option (Down S V)). Some (or_blank by.rule by.tally o)) x.1 ∙ sym x.1)
      ∙ rw (← f.filled.long) (table-back None labs)

  -- the end's node
  pub end-top : (labs : Labs) (l : Down S V) → get_or labs 0 None ≡ Some l → eqb l.lasts 0 ≡ false → top labs [] ≡ record { arcs = record { to = padded_targets [] }; label = record { down = l; up = end_up } } ∷ []
  end-top labs l e q = grind (arith, e, q)

  tops-end : (labs : Labs) (L : Layer) → Filled labs (length L) → IsTied (L ∷ []) → let labs' = labels_next by labs L 1 in (a j b : ℕ) → target (node L a) j ≡ suc b → get_or (ups_in (top labs' [])) b None ≡ get_or (ups by labs' []) b None
  unfolding labels_next
  tops-end labs L f t a j b e =
      let z : b ≡ 0 = omega (arith, t a j b e) in
      let l = f.there a (has-arc L a j b e) in
      let n = next-at {A = Down S V} (merge by.rule by.tally) (λ x. Unit {0}) (λ x y p. tt) (λ x y p. tt) (arrival_over by) labs L 1 a j b l.0 e l.1 (t a j b e) tt in
      let n0 : get_or (next (arrival_over by) (merge by.rule by.tally) labs L 1) 0 None ≡ Some n.0 = ap (λ (k : ℕ). get_or (next (arrival_over by) (merge by.rule by.tally) labs L 1) k None) (sym z) ∙ n.1 in
      let q = lasting-next labs L 1 0 n.0 n0 in
      grind (arith, z, q, n0, end-top (next (arrival_over by) (merge by.rule by.tally) labs L 1) n.0, ups-end by (next (arrival_over by) (merge by.rule by.tally) labs L 1) b)

  tops-inner : (labs : Labs) (M : Layer) (Ls : Net) (b : ℕ) → IsLed M → IsTied (M ∷ Ls) → b < length M → get_or (ups_in (top labs (M ∷ Ls))) b None ≡ get_or (ups by labs (M ∷ Ls)) b None
  tops-inner labs M Ls b led t h =
      let x = ups-full by labs M Ls led t b h in
      grind (arith, x, map-table (λ (x : Node S V). Some x.label.up) (length M) (record_of_place by M labs (ups by labs (M ∷ Ls))), table_at (length M) b (λ k. Some (or_no_up (get_or (ups by labs (M ∷ Ls)) k None))) None h)

  full_from : (labs : Labs) (L : Layer) (Ls : Net) → Filled labs (length L) → IsTied (L ∷ Ls) → IsRoomy by.width (L ∷ Ls) → IsEven by.round.n (L ∷ Ls) → Full labs (L ∷ Ls)
  full_from labs L [] f t room even = (record { filled = f; room = room.0; even = even.0; tops = tops-end labs L f t }, lasting-next labs L 1)
  full_from labs L (M ∷ Ls) f t room even = (
    record { filled = f; room = room.0; even = even.0; tops = λ a j b e. tops-inner (labels_next by labs L (length M)) M Ls b t.2 t.3 (t.0 a j b e) },
    full_from (labels_next by labs L (length M)) M Ls (filled_next labs L M Ls t f) t.3 room.1 even.1,
  )

  pub full-first : (L : Layer) (Ls : Net) → length L ≡ 1 → IsTied (L ∷ Ls) → IsRoomy by.width (L ∷ Ls) → IsEven by.round.n (L ∷ Ls) → Full (first_labels by.rule by.tally) (L ∷ Ls)
  full-first L Ls e t room even = full_from (first_labels by.rule by.tally) L Ls (rw e filled-first) t room even

  -- ---- reading the records
  pub layers-laid : (later : List (Node S V)) (labs : Labs) (Ls : Net) → Full labs Ls → layers by.width (length Ls) (labelled_from by labs Ls ++ later) ≡ stood labs Ls
  unfolding labelled_from
  layers-laid later labs [] f = refl
  layers-laid later labs (L ∷ Ls) f =
      let f' = record_of_place by L labs (ups by labs (L ∷ Ls)) in
      let X = labelled_from by (labels_next by labs L (width Ls)) Ls in
      let e = append_assoc (table by.width f') X later in
      let t = take_at (table by.width f') (X ++ later) by.width (table-long by.width f') in
      let u = drop_at (table by.width f') (X ++ later) by.width (table-long by.width f') in
      let o = stand-table by.width (length L) f' f.0.room (λ k h. let x = f.0.filled.there k h in grind (arith, x, f.0.filled.lasting k)) (λ h. grind (arith, f.0.filled.beyond)) in
      grind (arith, e, t, u, o, layers-laid later (labels_next by labs L (width Ls)) Ls f.1)

  pub drawn-stood : (labs : Labs) (Ls : Net) → Full labs Ls → arcs_of_layers by.round.n (stood labs Ls) ≡ Ls
  drawn-stood labs [] f = refl
  drawn-stood labs (L ∷ Ls) f = grind (arith, row-arcs labs L Ls f.0, drawn-stood (labels_next by labs L (width Ls)) Ls f.1)

  -- ---- the calls with the labels that stand
  abbrev pub Standing : Labs → Net → List (LayerLabels S V)
  Standing labs Ls = labels_in (stood labs Ls)

  -- a filter sees the same labels at each arc
  module _ (goes : ℕ → ℕ → ℕ → Option (Down S V) → Option Up → Bool) where
    pub kept-stood : (i : ℕ) (labs : Labs) (Ls : Net) → Full labs Ls → kept_arcs goes i Ls (Standing labs Ls) ≡ kept by goes i labs Ls
    unfolding kept_arcs
    kept-stood i labs [] f = refl
    kept-stood i labs (L ∷ Ls) f =
        let labs' = labels_next by labs L (width Ls) in
        let Q : Labs → ℕ → ℕ → Option Up → ℕ → ℕ = λ x a j u b. cond (goes i (suc (length Ls)) j (get_or x a None) u) 0 (suc b) in
        let F : Labs → List (Option Up) → ℕ → ℕ → ℕ → ℕ = λ x y a j b. Q x a j (get_or y b None) b in
        ap₂ (λ (x : Layer) (y : Net). x ∷ y)
        (ap (λ (x : Labs). redirect (F x (ups_in (top labs' Ls))) L) (row-downs labs L Ls f.0)
        ∙ redirect-cong (F labs (ups_in (top labs' Ls))) (F labs (ups by labs' Ls)) L (λ a j b g. ap (λ (u : Option Up). Q labs a j u b) (f.0.tops a j b g)))
        (kept-stood (suc i) labs' Ls f.1)

  pub agrees-stood : (labs : Labs) (Ls : Net) → Full labs Ls → in_arcs_agree by Ls (Standing labs Ls) ≡ agrees by labs Ls
  unfolding in_arcs_agree
  agrees-stood labs (L ∷ M ∷ Ls) f = grind (arith, row-downs labs L (M ∷ Ls) f.0, agrees-stood (labels_next by labs L (length M)) (M ∷ Ls) f.1)
  agrees-stood labs Ls f = refl

  pub stood-at : (d : ℕ) (labs : Labs) (Ls : Net) → Full labs Ls → d < length Ls
      → (downs_in (get_or (stood labs Ls) d []) ≡ labels_at by d labs Ls) × (arcs_in by.round.n (get_or (stood labs Ls) d []) ≡ get_or Ls d []) × (length (get_or (stood labs Ls) d []) ≡ length (get_or Ls d []))
  stood-at d labs [] f h = absurd (not-suc-le-zero h)
  stood-at zero labs (L ∷ Ls) f h = (row-downs labs L Ls f.0, row-arcs labs L Ls f.0, table-long (length L) (record_of_place by L labs (ups by labs (L ∷ Ls))))
  stood-at (suc d) labs (L ∷ Ls) f h = stood-at d (labels_next by labs L (width Ls)) Ls f.1 (le_of_suc-le-suc h)

  -- the end's value
  pub value-stood : (labs : Labs) (Ls : Net) → Full labs Ls → value_in (get_or (stood labs Ls) (length Ls) []) ≡ valueO by (end_label (arrival_over by) (merge by.rule by.tally) labs Ls)
  unfolding end_label labels_next
  value-stood labs [] f = grind (arith, end-top labs, f 0)
  value-stood labs (L ∷ Ls) f = value-stood (labels_next by labs L (width Ls)) Ls f.1

  -- ---- later places
  pub laid-long : (labs : Labs) (Ls : Net) → length (labelled_from by labs Ls) ≡ length Ls * by.width + 1
  unfolding labelled_from
  laid-long labs [] = omega (arith, zero-mul by.width)
  laid-long labs (L ∷ Ls) =
      let f' = record_of_place by L labs (ups by labs (L ∷ Ls)) in
      let X = labelled_from by (labels_next by labs L (width Ls)) Ls in
      omega (arith, length-append (table by.width f') X, table-long by.width f', laid-long (labels_next by labs L (width Ls)) Ls, suc-mul (length Ls) by.width)

  pub later-stays : (later : List (Node S V)) (Ls : Net) → length Ls ≡ by.round.n → drop (by.round.n * by.width + 1) (labelled_records by Ls ++ later) ≡ later
  unfolding labelled_records
  later-stays later Ls e = drop_at (labelled_from by (first_labels by.rule by.tally) Ls) later (by.round.n * by.width + 1) (laid-long (first_labels by.rule by.tally) Ls ∙ ap (λ (k : ℕ). k * by.width + 1) e)
