-- An accepted text has the form of a round's text.
use Rattle.std.proofs.Common.{◌≡◌, ◌≢◌, ◌⊎◌, ℕ, zero, suc, ◌+◌, ◌-◌, ◌<◌, ◌≤◌, List, [], ◌∷◌, ◌++◌, map, fold, length, slice_index, slice_index_or, drop, slice_set, replicate, Option, Some, None, Ok, Err, codes, Result, sym, refl, ap, ◌∙◌, subst, ⊎_elim, arith, le-ltb, lt-ltb, length-set}
use Rattle.std.specs.Bool.{if◌then◌else◌, ◌==◌}
use Rattle.std.specs.List.{All, AllPairs, join_with_byte, range_with_len}
use Rattle.std.proofs.lemmas.Bool.Decides.{nat_tests}
use Rattle.std.proofs.lemmas.Grind.{get_or-set_at}
use Rattle.std.proofs.lemmas.List.{drop_more, drop_all, get_or-set_other, nil_from_length}
use Rattle.std.proofs.lemmas.List.Elements.{All-nil, All-cons, All-weaker}
use Rattle.std.proofs.lemmas.List.FromFn.{fill_by_all}
use Rattle.std.proofs.lemmas.List.Kept.{AllPairs-cons}
use Rattle.std.proofs.lemmas.List.Splits.{join_with_byte-slice_split}
use Rattle.std.proofs.lemmas.Slice.Eq.{bytes_eq-Decides}
use Rattle.text.specs.declared.refusal.Refusal.{Refusal}
use Rattle.text.specs.declared.kind.Kind.TheVariants.{Round, Door, Drive, First, Keeper}
use Rattle.text.specs.declared.stage.Stage.{Stage}
use Rattle.text.specs.declared.stage.Stage.TheVariants.{Head, Doors, Drives, Pairs, Keepers}
use Rattle.text.specs.declared.draft.Draft.{Draft}
use Rattle.round.specs.declared.door.Door as door
use Rattle.text.specs.declared.line.Head as head
use Rattle.text.specs.declared.line.Pair as pair
use Rattle.text.specs.declared.line.Keeper as keeper
use Rattle.text.specs.Fields.{number_in, change_in}
use Rattle.text.specs.Pieces.{fields_in, lines_in}
use Rattle.text.specs.Lines.{and_then, counted, number_at, grid_of, in_turn, leg_in, row_from}
use Rattle.text.specs.Steps.{line_step, kind_step}
use Rattle.text.specs.Reading.{read_lines, read_text, at_end}
use Rattle.text.specs.Drafts.{unread, with_head, with_door, with_row, with_ahead, with_pair, with_kept, with_keeper}
use Rattle.text.specs.Form.{map_from, grid_fields, head_fields, door_fields, leg_field, row_fields, pair_fields, keeper_fields, written, AllFrom, DoorFits, GridFits, LegFits, RowFits, PairFits, KeeperFits, DifferInDoor, fill, row_of, HasForm}
use Rattle.text.proofs.Texts.{some-piece, doors_from, drives_from, after, HasNone}
use Rattle.text.proofs.Numbers.{Says, number-says, change-says}

-- ---- results

-- a value that went on
then_ok : {A B : Type 0} (r : Result A Refusal) (k : A → Result B Refusal) (b : B) → and_then r k ≡ Ok b → (a : A) × (r ≡ Ok a) × (k a ≡ Ok b)
then_ok (Ok a) k b e = (a, refl, e)
then_ok (Err x) k b e = absurd cc

-- a number that went on
then-number : {B : Type 0} (low high : ℕ) (f : List ℕ) (line k : ℕ) (K : ℕ → Result B Refusal) (b : B) → high ≤ 9999 → and_then (number_in low high f line k) K ≡ Ok b → (v : ℕ) × Says low high f v × (K v ≡ Ok b)
then-number low high f line k K b l e =
    let a = then_ok (number_in low high f line k) K b e in
    (a.0, number-says low high f line k a.0 l a.1, a.2)

-- where a line is taken, its kind is one that is due, which its word alone names; what is no pair is taken as after a keeper
abbrev Taken : Stage → Draft → ℕ → List (List ℕ) → Stage × Draft → Type 0
Taken Head d line fs t = (codes "round" ≡ slice_index_or fs 0 []) × (kind_step Head Round d line fs ≡ Ok t)
Taken (Doors k) d line fs t = (codes "door" ≡ slice_index_or fs 0 []) × (kind_step (Doors k) Door d line fs ≡ Ok t)
Taken (Drives k) d line fs t = (codes "drive" ≡ slice_index_or fs 0 []) × (kind_step (Drives k) Drive d line fs ≡ Ok t)
Taken Pairs d line fs t = ((codes "first" ≡ slice_index_or fs 0 []) × (kind_step Pairs First d line fs ≡ Ok t)) ⊎ (line_step Keepers d line fs ≡ Ok t)
Taken Keepers d line fs t = (codes "keeper" ≡ slice_index_or fs 0 []) × (kind_step Keepers Keeper d line fs ≡ Ok t)

line-due : (s : Stage) (d : Draft) (line : ℕ) (fs : List (List ℕ)) (t : Stage × Draft) → line_step s d line fs ≡ Ok t → Taken s d line fs t
line-due Head d line fs t e = grind (arith, bytes_eq-Decides (slice_index_or fs 0 []))
line-due (Doors k) d line fs t e = grind (arith, bytes_eq-Decides (slice_index_or fs 0 []))
line-due (Drives k) d line fs t e = grind (arith, bytes_eq-Decides (slice_index_or fs 0 []))
line-due Pairs d line fs t e = grind (arith, bytes_eq-Decides (slice_index_or fs 0 []))
line-due Keepers d line fs t e = grind (arith, bytes_eq-Decides (slice_index_or fs 0 []))

-- a line that has so many fields, where what they say went on
counted-ok : {A B : Type 0} (n line : ℕ) (fs : List (List ℕ)) (r : Result A Refusal) (k : A → Result B Refusal) (b : B) → and_then (counted n line fs r) k ≡ Ok b → (length fs ≡ n) × (a : A) × (r ≡ Ok a) × (k a ≡ Ok b)
counted-ok n line fs r k b e =
    let o = then_ok (counted n line fs r) k b e in
    let c : (length fs ≡ n) × (r ≡ Ok o.0) = grind (arith, nat_tests, o.1) in
    (c.0, o.0, c.1, o.2)

-- and its fields, at the places from 0 on
fields-are : {A B : Type 0} (n line : ℕ) (fs : List (List ℕ)) (r : Result A Refusal) (k : A → Result B Refusal) (b : B) → and_then (counted n line fs r) k ≡ Ok b → (length fs ≡ n) × (fs ≡ map (λ k. slice_index_or fs k []) (range_with_len 0 n)) × (a : A) × (r ≡ Ok a) × (k a ≡ Ok b)
fields-are n line fs r k b e =
    let c = counted-ok n line fs r k b e in
    (c.0, fill_by_all (λ k. slice_index_or fs k []) fs n [] c.0 (λ k m. refl), c.1, c.2, c.3)

-- ---- a line of each kind

-- a line of a pair that is taken is one that is written, in range
pair-form : (d : Draft) (line : ℕ) (fs : List (List ℕ)) (t : Stage × Draft) → d.n ≤ 16 → codes "first" ≡ slice_index_or fs 0 [] → kind_step Pairs First d line fs ≡ Ok t → (p : pair.Pair) × (pair_fields p ≡ fs) × PairFits d.n p × ((Pairs, with_pair d p) ≡ t)
pair-form d line fs t l w e =
    let c = fields-are 3 line fs _ _ t e in
    let a = then-number 1 d.n (slice_index_or fs 1 []) line 2 _ c.2 (omega arith) c.3 in
    let b = then-number 1 d.n (slice_index_or fs 2 []) line 3 _ c.2 (omega arith) a.2 in
    let p : pair.Pair = record { first = a.0; then = b.0 } in
    let r : (a.0 ≢ b.0) × (p ≡ c.2) = grind (arith, nat_tests, b.2) in
    (p, cc, record { first = a.1.from; most = a.1.to; second = b.1.from; last = b.1.to; apart = r.0 }, cc)

-- so is a line of a keeper, whose door had none
keeper-form : (d : Draft) (line : ℕ) (fs : List (List ℕ)) (t : Stage × Draft) → d.n ≤ 16 → line_step Keepers d line fs ≡ Ok t → (k : keeper.Keeper) × (keeper_fields k ≡ fs) × KeeperFits d.n k × HasNone d.keepers k × ((Keepers, with_keeper d k) ≡ t)
keeper-form d line fs t l e =
    let q = line-due Keepers d line fs t e in
    let c = fields-are 3 line fs _ _ t q.1 in
    let a = then-number 1 d.n (slice_index_or fs 1 []) line 2 _ c.2 (omega arith) c.3 in
    let made : ℕ → Result keeper.Keeper Refusal = λ v. Ok (record { door = a.0; number = v }) in
    let o : (slice_index d.keepers a.0 ≡ 0) × (and_then (number_at line fs 3 1 99) made ≡ Ok c.2) = grind (arith, nat_tests, a.2) in
    let b = then-number 1 99 (slice_index_or fs 2 []) line 3 made c.2 (omega arith) o.1 in
    (record { door = a.0; number = b.0 }, cc, record { door = a.1.from; most = a.1.to; number = b.1.from; last = b.1.to }, o.0, cc)

-- the grid that is read is the one that is written, in range, where one is
grid-form : (line : ℕ) (fs : List (List ℕ)) (g : Option ℕ) → length fs ≤ 5 → grid_of line fs ≡ Ok g → (grid_fields g ≡ drop 4 fs) × GridFits g
grid-form line fs None l e =
    let n : length fs ≤ 4 = grind (arith, nat_tests) in
    (sym (drop_all 4 fs n), tt)
grid-form line fs (Some v) l e =
    let n : (length fs ≡ 5) × (number_at line fs 5 1 60 ≡ Ok v) = grind (arith, nat_tests) in
    let w = number-says 1 60 (slice_index_or fs 4 []) line 5 v (omega arith) n.1 in
    (rw (drop_more fs 4 [] (omega (arith, n.0)), drop_all 5 fs (omega (arith, n.0)), w.text) refl, (w.from, w.to))

-- a round line that is taken is one that is written, in range
head-form : (line : ℕ) (fs : List (List ℕ)) (t : Stage × Draft) → line_step Head unread line fs ≡ Ok t → (h : head.Head) × (head_fields h ≡ fs) × Says 1 16 (slice_index_or fs 1 []) h.n × Says h.load 999 (slice_index_or fs 3 []) h.cap × GridFits h.grid × ((Doors 1, with_head unread h) ≡ t)
head-form line fs t e =
    let q = line-due Head unread line fs t e in
    let c = counted-ok (if length fs == 5 then 5 else 4) line fs _ _ t q.1 in
    let l : (4 ≤ length fs) × (length fs ≤ 5) = grind (arith, nat_tests, c.0) in
    let a = then-number 1 16 (slice_index_or fs 1 []) line 2 _ c.1 (omega arith) c.2 in
    let b = then-number 0 999 (slice_index_or fs 2 []) line 3 _ c.1 (omega arith) a.2 in
    let f = then-number b.0 999 (slice_index_or fs 3 []) line 4 _ c.1 (omega arith) b.2 in
    let g = then_ok (grid_of line fs) _ c.1 f.2 in
    let i = grid-form line fs g.0 l.1 g.1 in
    let r = drop_more fs 0 [] (omega (arith, l.0)) in
    let s = drop_more fs 1 [] (omega (arith, l.0)) in
    let u = drop_more fs 2 [] (omega (arith, l.0)) in
    let w = drop_more fs 3 [] (omega (arith, l.0)) in
    (record { n = a.0; load = b.0; cap = f.0; grid = g.0 }, cc, a.1, f.1, i.1, cc)

-- where a line goes on after its number, that is the one that is due
turn-says : {A : Type 0} (low high due line : ℕ) (fs : List (List ℕ)) (r : Result A Refusal) (b : A) → high ≤ 9999 → and_then (in_turn low high due line fs) (λ _. r) ≡ Ok b → Says low high (slice_index_or fs 1 []) due × (r ≡ Ok b)
turn-says low high due line fs r b l e =
    let o = then_ok (in_turn low high due line fs) _ b e in
    let a = then-number low high (slice_index_or fs 1 []) line 2 _ o.0 l o.1 in
    let c : a.0 ≡ due = grind (arith, nat_tests, a.2) in
    (rw (← c) a.1, o.2)

-- so is a door line
door-form : (d : Draft) (k line : ℕ) (fs : List (List ℕ)) (t : Stage × Draft) → d.n ≤ 16 → line_step (Doors k) d line fs ≡ Ok t → (x : door.Door) × (door_fields k x ≡ fs) × DoorFits x × ((doors_from d.n (k + 1), with_door d k x) ≡ t)
door-form d k line fs t l e =
    let q = line-due (Doors k) d line fs t e in
    let c = fields-are 7 line fs _ _ t q.1 in
    let x = c.2 in
    let i = turn-says 1 d.n k line fs _ x (omega arith) c.3 in
    let a = then-number 0 9999 (slice_index_or fs 2 []) line 3 _ x (omega arith) i.1 in
    let b = then-number 0 9999 (slice_index_or fs 3 []) line 4 _ x (omega arith) a.2 in
    let f = then-number 0 9999 (slice_index_or fs 4 []) line 5 _ x (omega arith) b.2 in
    let w = then-number 1 999 (slice_index_or fs 5 []) line 6 _ x (omega arith) f.2 in
    let g = then_ok (change_in (slice_index_or fs 6 []) line 7) _ x w.2 in
    let z = change-says (slice_index_or fs 6 []) line 7 g.0 g.1 in
    let r : door.Door = record { opens = a.0; closes = b.0; due = f.0; work = w.0; change = g.0 } in
    let fits : DoorFits r = record { opens = a.1.to; closes = b.1.to; due = f.1.to; some = w.1.from; work = w.1.to; low = z.low; high = z.high } in
    (r, cc, fits, cc (after d.n k (Doors (k + 1)) (Drives 0)))

-- and the field of a drive
leg-form : (i j line : ℕ) (fs : List (List ℕ)) (v : ℕ) → leg_in i j line fs ≡ Ok v → (leg_field i j v ≡ slice_index_or fs (j + 2 - 1) []) × LegFits i j v
leg-form i j line fs v e =
    let f = slice_index_or fs (j + 2 - 1) [] in
    grind (arith, nat_tests, bytes_eq-Decides f (codes "-"), number-says 0 999 f line (j + 2) v)

-- and the fields of the drives to the doors from j on
legs-form : (m i j line : ℕ) (fs : List (List ℕ)) (row out : List ℕ) → length fs ≡ j + 1 + m → row_from m i j line fs row ≡ Ok out → (vs : List ℕ) × (length vs ≡ m) × (map_from (leg_field i) j vs ≡ drop (j + 1) fs) × (fill j vs row ≡ out) × AllFrom (LegFits i) j vs
legs-form zero i j line fs row out l e = ([], refl, sym (drop_all (j + 1) fs (omega arith)), cc, tt)
legs-form (suc m) i j line fs row out l e =
    let a = then_ok (leg_in i j line fs) (λ leg. row_from m i (j + 1) line fs (slice_set row j leg)) out e in
    let f = leg-form i j line fs a.0 a.1 in
    let h = legs-form m i (j + 1) line fs (slice_set row j a.0) out (omega arith) a.2 in
    let place : j + 2 - 1 ≡ j + 1 = omega arith in
    let more = drop_more fs (j + 1) [] (omega arith) in
    let first = f.0 ∙ ap (λ k. slice_index_or fs k []) place in
    (a.0 ∷ h.0, omega (arith, h.1), cc, h.3, (f.1, h.4))

-- and a drive line
row-form : (d : Draft) (k line : ℕ) (fs : List (List ℕ)) (t : Stage × Draft) → d.n ≤ 16 → line_step (Drives k) d line fs ≡ Ok t → (vs : List ℕ) × (row_fields k vs ≡ fs) × RowFits d.n k vs × ((drives_from d.n (k + 1), with_row d k (row_of vs)) ≡ t)
row-form d k line fs t l e =
    let q = line-due (Drives k) d line fs t e in
    let c = fields-are (d.n + 2) line fs _ _ t q.1 in
    let i = turn-says 0 d.n k line fs _ c.2 (omega arith) c.3 in
    let r = legs-form d.n k 1 line fs (replicate 17 0) c.2 (omega arith) i.1 in
    let s = drop_more fs 0 [] (omega arith) in
    let u = drop_more fs 1 [] (omega arith) in
    (r.0, cc, (r.1, r.4), cc (after d.n k (Drives (k + 1)) Pairs))

-- ---- the lines of each kind

-- the lines by their fields, one step for each
abbrev Run : List (List (List ℕ)) → Stage → Draft → Draft → Type 0
Run [] s d e = (line : ℕ) × (at_end s d line ≡ Ok e)
Run (fs ∷ fss) s d e = (line : ℕ) × (t : Stage × Draft) × (line_step s d line fs ≡ Ok t) × Run fss t.0 t.1 e

-- the lines of an accepted text are taken one after another
run-lines : (ps : List (List ℕ)) (line : ℕ) (s : Stage) (d e : Draft) → 0 < length ps → read_lines ps line s d ≡ Ok e → (fss : List (List (List ℕ))) × (written fss ≡ join_with_byte 10 ps) × Run fss s d e
run-lines [] line s d e l h = absurd (omega arith)
run-lines (p ∷ []) line s d e l h =
    let a : (length p ≡ 0) × (at_end s d line ≡ Ok e) = grind (arith, nat_tests) in
    ([], sym (nil_from_length p a.0), (line, a.1))
run-lines (p ∷ q ∷ ps) line s d e l h =
    let a = then_ok (line_step s d line (fields_in p)) _ e h in
    let r = run-lines (q ∷ ps) (line + 1) a.0.0 a.0.1 e (omega arith) a.2 in
    let same = join_with_byte-slice_split 9 p in
    (fields_in p ∷ r.0, cc, (line, a.0, a.1, r.2))

-- a door that has none once k has one is another door, and had none
none-before : (table : List ℕ) (k j : keeper.Keeper) → k.door < length table → 1 ≤ k.number → HasNone (with_kept table k) j → DifferInDoor k j × HasNone table j
none-before table k j l n h =
    grind (arith, get_or-set_at table k.door j.door k.number 0, get_or-set_other table k.door j.door k.number 0)

-- the lines from the first keeper on
keepers-form : (fss : List (List (List ℕ))) (d e : Draft) → d.n ≤ 16 → length d.keepers ≡ 17 → Run fss Keepers d e → (ks : List keeper.Keeper) × (map keeper_fields ks ≡ fss) × (record d { keepers = fold with_kept d.keepers ks } ≡ e) × All (KeeperFits d.n) ks × AllPairs DifferInDoor ks × All (HasNone d.keepers) ks
keepers-form [] d e l m r = ([], refl, cc, All-nil (KeeperFits d.n), (λ i j x a b. absurd (omega arith)), All-nil (HasNone d.keepers))
keepers-form (fs ∷ fss) d e l m r =
    let q = keeper-form d r.0 fs r.1 l r.2 in
    let table = with_kept d.keepers q.0 in
    let i = keepers-form fss (with_keeper d q.0) e l (length-set d.keepers q.0.door q.0.number ∙ m) (subst (λ (z : Stage × Draft). Run fss z.0 z.1 e) (sym q.4) r.3) in
    let before = λ (j : keeper.Keeper) (h : HasNone table j). none-before d.keepers q.0 j (omega (arith, q.2.most)) q.2.number h in (
      q.0 ∷ i.0,
      cc,
      i.2,
      All-cons (KeeperFits d.n) q.0 i.0 q.2 i.3,
      AllPairs-cons DifferInDoor q.0 i.0 (All-weaker (HasNone table) (DifferInDoor q.0) (λ j h. (before j h).0) i.0 i.5) i.4,
      All-cons (HasNone d.keepers) q.0 i.0 q.3 (All-weaker (HasNone table) (HasNone d.keepers) (λ j h. (before j h).1) i.0 i.5),
    )

-- the lines from the first pair on: lines of pairs, and then of keepers
pairs-form : (fss : List (List (List ℕ))) (d e : Draft) → d.n ≤ 16 → length d.keepers ≡ 17 → Run fss Pairs d e → (qs : List pair.Pair) × (ks : List keeper.Keeper) × (map pair_fields qs ++ map keeper_fields ks ≡ fss) × (record d { ahead = fold with_ahead d.ahead qs; keepers = fold with_kept d.keepers ks } ≡ e) × All (PairFits d.n) qs × All (KeeperFits d.n) ks × AllPairs DifferInDoor ks
pairs-form [] d e l m r =
    let i = keepers-form [] d e l m r in
    ([], i.0, i.1, i.2, All-nil (PairFits d.n), i.3, i.4)
pairs-form (fs ∷ fss) d e l m r =
    ⊎_elim
    (λ p.
    let q = pair-form d r.0 fs r.1 l p.0 p.1 in
    let i = pairs-form fss (with_pair d q.0) e l m (subst (λ (z : Stage × Draft). Run fss z.0 z.1 e) (sym q.3) r.3) in
    (q.0 ∷ i.0, i.1, cc, i.3, All-cons (PairFits d.n) q.0 i.0 q.2 i.4, i.5, i.6))
    (λ k.
    let i = keepers-form (fs ∷ fss) d e l m (r.0, r.1, k, r.3) in
    ([], i.0, i.1, i.2, All-nil (PairFits d.n), i.3, i.4))
    (line-due Pairs d r.0 fs r.1 r.2)

-- the lines from the drives of place k on, of m places: drive lines, and what pairs make of the rest
rows-form : (m : ℕ) (fss : List (List (List ℕ))) (k : ℕ) (d e : Draft) → d.n ≤ 16 → k + m ≡ d.n + 1 → Run fss (drives_from d.n k) d e → (rs : List (List ℕ)) × (gss : List (List (List ℕ))) × (map_from row_fields k rs ++ gss ≡ fss) × (length rs ≡ m) × AllFrom (RowFits d.n) k rs × Run gss Pairs (record d { drives = fill k (map row_of rs) d.drives }) e
rows-form zero fss k d e l h r = ([], fss, refl, refl, tt, rw (lt-ltb d.n k (omega arith)) at r)
rows-form (suc m) [] k d e l h r = let o = rw (le-ltb d.n k (omega arith)) at r in absurd cc
rows-form (suc m) (fs ∷ fss) k d e l h r =
    let o = rw (le-ltb d.n k (omega arith)) at r in
    let q = row-form d k o.0 fs o.1 l o.2 in
    let i = rows-form m fss (k + 1) (with_row d k (row_of q.0)) e l (omega arith) (subst (λ (z : Stage × Draft). Run fss z.0 z.1 e) (sym q.3) o.3) in
    (q.0 ∷ i.0, i.1, cc, cc, (q.2, i.4), i.5)

-- the lines from door k on, of m doors: door lines, and what drives make of the rest
doors-form : (m : ℕ) (fss : List (List (List ℕ))) (k : ℕ) (d e : Draft) → d.n ≤ 16 → k + m ≡ d.n + 1 → Run fss (doors_from d.n k) d e → (xs : List door.Door) × (gss : List (List (List ℕ))) × (map_from door_fields k xs ++ gss ≡ fss) × (length xs ≡ m) × All DoorFits xs × Run gss (Drives 0) (record d { doors = fill k xs d.doors }) e
doors-form zero fss k d e l h r = ([], fss, refl, refl, All-nil DoorFits, rw (lt-ltb d.n k (omega arith)) at r)
doors-form (suc m) [] k d e l h r = let o = rw (le-ltb d.n k (omega arith)) at r in absurd cc
doors-form (suc m) (fs ∷ fss) k d e l h r =
    let o = rw (le-ltb d.n k (omega arith)) at r in
    let q = door-form d k o.0 fs o.1 l o.2 in
    let i = doors-form m fss (k + 1) (with_door d k q.0) e l (omega arith) (subst (λ (z : Stage × Draft). Run fss z.0 z.1 e) (sym q.3) o.3) in
    (q.0 ∷ i.0, i.1, cc, cc, All-cons DoorFits q.0 i.0 q.2 i.4, i.5)

-- all lines
run-form : (fss : List (List (List ℕ))) (e : Draft) → Run fss Head unread e → HasForm (written fss) e
run-form [] e r = absurd cc
run-form (fs ∷ fss) e r =
    let h = head-form r.0 fs r.1 r.2 in
    let n = h.0.n in
    let x = doors-form n fss 1 (with_head unread h.0) e h.2.to (omega arith) (rw (le-ltb n 1 h.2.from) (subst (λ (z : Stage × Draft). Run fss z.0 z.1 e) (sym h.5) r.3)) in
    let w = rows-form (n + 1) x.1 0 (record (with_head unread h.0) { doors = fill 1 x.0 unread.doors }) e h.2.to (omega arith) (rw (le-ltb n 0 (omega arith)) x.5) in
    let p = pairs-form w.1 (record (with_head unread h.0) { doors = fill 1 x.0 unread.doors; drives = fill 0 (map row_of w.0) unread.drives }) e h.2.to refl w.5 in
    record {
      content = record { head = h.0; doors = x.0; rows = w.0; pairs = p.0; keepers = p.1 };
      fits = record {
        one = h.2.from;
        most = h.2.to;
        load = h.3.from;
        cap = h.3.to;
        grid = h.4;
        many = x.3;
        doors = x.4;
        places = w.3;
        rows = w.4;
        pairs = p.4;
        keepers = p.5;
        once = p.6;
      };
      same = cc;
      round = p.3;
    }

-- an accepted text has the form, and gives the round of that form
pub accepted_form : (text : List ℕ) (d : Draft) → read_text text ≡ Ok d → HasForm text d
accepted_form text d h =
    let r = run-lines (lines_in text) 1 Head unread d (some-piece 10 text) h in
    subst (λ t. HasForm t d) (r.1 ∙ join_with_byte-slice_split 10 text) (run-form r.0 d r.2)
