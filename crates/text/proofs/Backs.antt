-- A text of the form is accepted.
use Rattle.std.proofs.Common.{◌≡◌, ℕ, zero, suc, ◌+◌, ◌-◌, ◌<◌, ◌≤◌, Bool, true, false, nat_eq, nat_lt, List, [], ◌∷◌, ◌++◌, map, fold, length, slice_index_or, drop, slice_set, replicate, ℤ, pos, negsuc, ◌≤ℤ◌, Option, Some, None, Ok, Err, decimal, sym, refl, ap, ◌∙◌, arith, le-ltb, lt-ltb, eq-eqb}
use borrow.Author.Differences.{ints}
use Rattle.std.specs.Fmt.{signed_decimal}
use Rattle.std.specs.List.{All, AllPairs, list_all, join_with_byte}
use Rattle.std.specs.Str.{all_ascii_digits}
use Rattle.std.proofs.lemmas.Bool.{and_parts}
use Rattle.std.proofs.lemmas.Bool.Decides.{nat_tests}
use Rattle.std.proofs.lemmas.Fmt.{digits_decimal}
use Rattle.std.proofs.lemmas.List.{drop-drop, get_or-drop, get_or-replicate, get_or-set_other}
use Rattle.std.proofs.lemmas.List.Elements.{All-append, All-cons, All-head, All-tail, All-weaker}
use Rattle.std.proofs.lemmas.List.Splits.{slice_split_at, slice_split_none}
use Rattle.std.proofs.lemmas.List.Sums.{AllPass-from_list_all}
use Rattle.text.specs.declared.refusal.Refusal.{Refusal}
use Rattle.text.specs.declared.kind.Kind.TheVariants.{Keeper}
use Rattle.text.specs.declared.stage.Stage.{Stage}
use Rattle.text.specs.declared.stage.Stage.TheVariants.{Head, Doors, Drives, Pairs, Keepers}
use Rattle.text.specs.declared.draft.Draft.{Draft}
use Rattle.round.specs.declared.door.Door as door
use Rattle.text.specs.declared.line.Head as head
use Rattle.text.specs.declared.line.Pair as pair
use Rattle.text.specs.declared.line.Keeper as keeper
use Rattle.text.specs.Pieces.{pieces, fields_in, lines_in}
use Rattle.text.specs.Lines.{leg_in, row_from}
use Rattle.text.specs.Steps.{line_step, kind_step}
use Rattle.text.specs.Reading.{read_lines, read_text, at_end}
use Rattle.text.specs.Drafts.{unread, with_head, with_door, with_row, with_ahead, with_pair, with_kept, with_keeper}
use Rattle.text.specs.Form.{Content, Fits, map_from, head_fields, door_fields, leg_field, row_fields, pair_fields, keeper_fields, records, written, AllFrom, DoorFits, GridFits, LegFits, RowFits, PairFits, KeeperFits, DifferInDoor, fill, row_of, round_of, HasForm}
use Rattle.text.proofs.Numbers.{own, number-back, change-back}
use Rattle.text.proofs.Texts.{read_step, doors_from, drives_from, after, HasNone}

-- ---- what stands in a field is no separator

-- s is not in the list
abbrev Lacks : ℕ → List ℕ → Type 0
Lacks s bs = All (λ b. nat_eq b s ≡ false) bs

-- a piece without the separator, then the separator
pieces_more : (s : ℕ) (a b : List ℕ) → Lacks s a → pieces s (a ++ s ∷ b) ≡ a ∷ pieces s b
pieces_more s a b h = slice_split_at (λ b. nat_eq b s) a s b h (grind arith)

-- each byte is above the separators
abbrev clear : List ℕ → Bool
clear f = list_all (λ b. nat_lt 44 b) f

-- digits are
clear-digits : (f : List ℕ) → all_ascii_digits f ≡ true → clear f ≡ true
clear-digits [] h = refl
clear-digits (b ∷ f) h = grind (arith, nat_tests, clear-digits f)

-- so is what a number writes
clear-decimal : (v : ℕ) → v ≤ 9999 → clear (decimal v) ≡ true
clear-decimal v l = clear-digits (decimal v) (digits_decimal own v (omega arith))

-- and what a change writes
clear-signed : (z : ℤ) → negsuc 98 ≤ℤ z → z ≤ℤ pos 99 → clear (signed_decimal z) ≡ true
clear-signed (pos v) l h = clear-decimal v (omega (arith, ints))
clear-signed (negsuc v) l h = clear-decimal (suc v) (omega (arith, ints))

-- no separator stands in such a field
lacks-clear : (s : ℕ) (f : List ℕ) → s ≤ 44 → clear f ≡ true → Lacks s f
lacks-clear s f l h =
    All-weaker (λ b. nat_lt 44 b ≡ true) (λ b. nat_eq b s ≡ false) (λ b m. grind (arith, nat_tests)) f (AllPass-from_list_all (λ b. nat_lt 44 b) f h)

-- a line of such fields
abbrev Clean : List (List ℕ) → Type 0
Clean fs = (0 < length fs) × (list_all clear fs ≡ true)

-- such fields, joined by tabs, are cut into the same fields, and have no line feed
joined : (fs : List (List ℕ)) → Clean fs → (fields_in (join_with_byte 9 fs) ≡ fs) × Lacks 10 (join_with_byte 9 fs)
joined [] c = absurd (omega arith)
joined (f ∷ []) c =
    let p = and_parts (clear f) true c.1 in
    (slice_split_none (λ b. nat_eq b 9) f (lacks-clear 9 f (omega arith) p.0), lacks-clear 10 f (omega arith) p.0)
joined (f ∷ g ∷ fs) c =
    let p = and_parts (clear f) (list_all clear (g ∷ fs)) c.1 in
    let i = joined (g ∷ fs) (omega arith, p.1) in
    let w = join_with_byte 9 (g ∷ fs) in (
      pieces_more 9 f w (lacks-clear 9 f (omega arith) p.0) ∙ ap (λ t. f ∷ t) i.0,
      All-append (λ b. nat_eq b 10 ≡ false) f (9 ∷ w) (lacks-clear 10 f (omega arith) p.0) (All-cons (λ b. nat_eq b 10 ≡ false) 9 w refl i.1),
    )

-- ---- a line of each kind is taken

-- the lines are accepted, and give e
abbrev Gives : List (List (List ℕ)) → ℕ → Stage → Draft → Draft → Type 0
Gives fss line s d e = read_lines (lines_in (written fss)) line s d ≡ Ok e

-- a line that is taken, and the lines after it
line-gives : (fs : List (List ℕ)) (fss : List (List (List ℕ))) (line : ℕ) (s t : Stage) (d u e : Draft) → Clean fs → line_step s d line fs ≡ Ok (t, u) → Gives fss (line + 1) t u e → Gives (fs ∷ fss) line s d e
line-gives fs fss line s t d u e c h g =
    let j = joined fs c in
    let w = join_with_byte 9 fs in
    rw (read_step (w ++ 10 ∷ written fss) w (written fss) line s d (pieces_more 10 w (written fss) j.1), j.0, h) g

-- the round line is taken as it is written
head-back : (n load cap : ℕ) (g : Option ℕ) → 1 ≤ n → n ≤ 16 → load ≤ cap → cap ≤ 999 → GridFits g → let h : head.Head = record { n = n; load = load; cap = cap; grid = g } in Clean (head_fields h) × (line_step Head unread 1 (head_fields h) ≡ Ok (Doors 1, with_head unread h))
head-back n load cap None a b c d e =
    ((omega arith, grind (arith, clear-decimal)), grind (arith, nat_tests, number-back 1 16 n 1 2, number-back 0 999 load 1 3, number-back load 999 cap 1 4))
head-back n load cap (Some g) a b c d e =
    ((omega arith, grind (arith, clear-decimal, e)), grind (arith, nat_tests, number-back 1 16 n 1 2, number-back 0 999 load 1 3, number-back load 999 cap 1 4, number-back 1 60 g 1 5, e))

-- the line of door k is taken as it is written
door-back : (k : ℕ) (d : Draft) (x : door.Door) (line : ℕ) → 1 ≤ k → k ≤ d.n → d.n ≤ 16 → DoorFits x → line_step (Doors k) d line (door_fields k x) ≡ Ok (doors_from d.n (k + 1), with_door d k x)
door-back k d x line a b c f =
    let number = λ (v k : ℕ). number-back 0 9999 v line k in
    rw (number-back 1 d.n k line 2 a b (omega arith), eq-eqb k k refl, after d.n k (Doors (k + 1)) (Drives 0))
    (grind (arith, number x.opens 3, number x.closes 4, number x.due 5, number-back 1 999 x.work line 6, change-back x.change line 7))

-- and the field of a drive
leg-back : (i j line v : ℕ) (fs : List (List ℕ)) → slice_index_or fs (j + 2 - 1) [] ≡ leg_field i j v → LegFits i j v → leg_in i j line fs ≡ Ok v
leg-back i j line v fs e f =
    let n = number-back 0 999 v line (j + 2) (omega arith) f.0 (omega arith) in
    rw e (grind (arith, nat_tests))

-- and the fields of the drives to the doors from j on
legs-back : (vs : List ℕ) (i j line : ℕ) (fs : List (List ℕ)) (row : List ℕ) → drop (j + 1) fs ≡ map_from (leg_field i) j vs → AllFrom (LegFits i) j vs → row_from (length vs) i j line fs row ≡ Ok (fill j vs row)
legs-back [] i j line fs row e f = refl
legs-back (v ∷ vs) i j line fs row e f =
    let place : j + 2 - 1 ≡ j + 1 + 0 = omega arith in
    let first = ap (λ k. slice_index_or fs k []) place ∙ sym (get_or-drop (j + 1) fs 0 []) ∙ ap (λ t. slice_index_or t 0 []) e in
    let rest = sym (drop-drop 1 (j + 1) fs) ∙ ap (λ t. drop 1 t) e in
    rw (leg-back i j line v fs first f.0) (legs-back vs i (j + 1) line fs (slice_set row j v) rest f.1)

-- as many as there were
length-map_from : {A B : Type 0} (f : ℕ → A → B) (i : ℕ) (xs : List A) → length (map_from f i xs) ≡ length xs
length-map_from f i [] = refl
length-map_from f i (x ∷ xs) = ap suc (length-map_from f (i + 1) xs)

-- and the drive line of place k
row-back : (k : ℕ) (d : Draft) (vs : List ℕ) (line : ℕ) → k ≤ d.n → d.n ≤ 16 → RowFits d.n k vs → line_step (Drives k) d line (row_fields k vs) ≡ Ok (drives_from d.n (k + 1), with_row d k (row_of vs))
row-back k d vs line a b f =
    let many : length (row_fields k vs) ≡ d.n + 2 = omega (arith, length-map_from (leg_field k) 1 vs) in
    let row : row_from d.n k 1 line (row_fields k vs) (replicate 17 0) ≡ Ok (row_of vs) = rw (← f.0) (legs-back vs k 1 line (row_fields k vs) (replicate 17 0) refl f.1) in
    rw (eq-eqb (length (row_fields k vs)) (d.n + 2) many, number-back 0 d.n k line 2 (omega arith) a (omega arith), eq-eqb k k refl, row, after d.n k (Drives (k + 1)) Pairs)

-- ---- the lines of a text are taken

-- the fields of drives hold no separator
clean-legs : (i j : ℕ) (vs : List ℕ) → AllFrom (LegFits i) j vs → list_all clear (map_from (leg_field i) j vs) ≡ true
clean-legs i j [] f = refl
clean-legs i j (v ∷ vs) f = grind (arith, nat_tests, clear-decimal v, clean-legs i (j + 1) vs f.1)

-- the text may end here, and a line of a keeper is taken as after another
abbrev TakesKeepers : Stage → Type 0
TakesKeepers s = (d : Draft) (line : ℕ) → (at_end s d line ≡ Ok d) × ((fs : List (List ℕ)) → kind_step s Keeper d line fs ≡ kind_step Keepers Keeper d line fs)

-- a door that has none has none once another door has one
none-after : (table : List ℕ) (k j : keeper.Keeper) → DifferInDoor k j → HasNone table j → HasNone (with_kept table k) j
none-after table k j n h = grind (arith, get_or-set_other table k.door j.door k.number 0)

-- the lines of keepers are accepted to the end
gives-keepers : (ks : List keeper.Keeper) (line : ℕ) (s : Stage) (d : Draft) → TakesKeepers s → d.n ≤ 16 → All (KeeperFits d.n) ks → AllPairs DifferInDoor ks → All (HasNone d.keepers) ks → Gives (map keeper_fields ks) line s d (record d { keepers = fold with_kept d.keepers ks })
gives-keepers [] line s d t l f o h = (t d line).0
gives-keepers (k ∷ ks) line s d t l f o h =
    let fits = All-head (KeeperFits d.n) k ks f in
    let none = All-head (HasNone d.keepers) k ks h in
    let clean : Clean (keeper_fields k) = (omega arith, grind (arith, clear-decimal)) in
    let step : line_step Keepers d line (keeper_fields k) ≡ Ok (Keepers, with_keeper d k) =
    grind (arith, nat_tests, number-back 1 d.n k.door line 2, number-back 1 99 k.number line 3) in
    line-gives (keeper_fields k) (map keeper_fields ks) line s Keepers d (with_keeper d k) _ clean ((t d line).1 (keeper_fields k) ∙ step)
    (gives-keepers ks (line + 1) Keepers (with_keeper d k) (λ _ _. (refl, λ _. refl)) l (All-tail (KeeperFits d.n) k ks f) (λ i j x a b. o (suc i) (suc j) x (omega arith) (omega arith))
    (λ i x m. none-after d.keepers k (slice_index_or ks i x) (o zero (suc i) x (omega arith) (omega arith)) (All-tail (HasNone d.keepers) k ks h i x m)))

-- the lines of pairs, and the lines after them
gives-pairs : (qs : List pair.Pair) (gss : List (List (List ℕ))) (line : ℕ) (d e : Draft) → d.n ≤ 16 → All (PairFits d.n) qs → ((m : ℕ) → Gives gss m Pairs (record d { ahead = fold with_ahead d.ahead qs }) e) → Gives (map pair_fields qs ++ gss) line Pairs d e
gives-pairs [] gss line d e l f g = g line
gives-pairs (p ∷ qs) gss line d e l f g =
    let fits = All-head (PairFits d.n) p qs f in
    let clean : Clean (pair_fields p) = (omega arith, grind (arith, clear-decimal)) in
    let step : line_step Pairs d line (pair_fields p) ≡ Ok (Pairs, with_pair d p) =
    grind (arith, nat_tests, number-back 1 d.n p.first line 2, number-back 1 d.n p.then line 3) in
    line-gives (pair_fields p) _ line Pairs Pairs d (with_pair d p) e clean step (gives-pairs qs gss (line + 1) (with_pair d p) e l (All-tail (PairFits d.n) p qs f) g)

-- the drive lines from place k on, and the lines after them
gives-rows : (rs : List (List ℕ)) (gss : List (List (List ℕ))) (k line : ℕ) (d e : Draft) → d.n ≤ 16 → length rs + k ≡ d.n + 1 → AllFrom (RowFits d.n) k rs → ((m : ℕ) → Gives gss m Pairs (record d { drives = fill k (map row_of rs) d.drives }) e) → Gives (map_from row_fields k rs ++ gss) line (drives_from d.n k) d e
gives-rows [] gss k line d e l c f g = rw (lt-ltb d.n k (omega arith)) (g line)
gives-rows (r ∷ rs) gss k line d e l c f g =
    let clean : Clean (row_fields k r) = (omega arith, rw (clear-decimal k (omega arith)) (clean-legs k 1 r f.0.1)) in
    let rest = gives-rows rs gss (k + 1) (line + 1) (with_row d k (row_of r)) e l (omega arith) f.1 g in
    rw (le-ltb d.n k (omega arith)) (line-gives (row_fields k r) _ line (Drives k) _ d (with_row d k (row_of r)) e clean (row-back k d r line (omega arith) l f.0) rest)

-- the door lines from door k on, and the lines after them
gives-doors : (xs : List door.Door) (gss : List (List (List ℕ))) (k line : ℕ) (d e : Draft) → d.n ≤ 16 → 1 ≤ k → length xs + k ≡ d.n + 1 → All DoorFits xs → ((m : ℕ) → Gives gss m (Drives 0) (record d { doors = fill k xs d.doors }) e) → Gives (map_from door_fields k xs ++ gss) line (doors_from d.n k) d e
gives-doors [] gss k line d e l o c f g = rw (lt-ltb d.n k (omega arith)) (g line)
gives-doors (x ∷ xs) gss k line d e l o c f g =
    let h = All-head DoorFits x xs f in
    let clean : Clean (door_fields k x) = (omega arith, grind (arith, clear-decimal, clear-signed)) in
    let rest = gives-doors xs gss (k + 1) (line + 1) (with_door d k x) e l (omega arith) (omega arith) (All-tail DoorFits x xs f) g in
    rw (le-ltb d.n k (omega arith)) (line-gives (door_fields k x) _ line (Doors k) _ d (with_door d k x) e clean (door-back k d x line o (omega arith) l h) rest)

-- all lines of a content in range are accepted, and give its round
gives-all : (c : Content) → Fits c → Gives (records c) 1 Head unread (round_of c)
gives-all c f =
    let h = c.head in
    let d = with_head unread h in
    let e = round_of c in
    let ks = map keeper_fields c.keepers in
    let ps = map pair_fields c.pairs ++ ks in
    let u : Draft = record d { doors = fill 1 c.doors unread.doors } in
    let v : Draft = record u { drives = fill 0 (map row_of c.rows) unread.drives } in
    let w : Draft = record v { ahead = fold with_ahead unread.ahead c.pairs } in
    let none = All-weaker (KeeperFits h.n) (HasNone unread.keepers) (λ k t. get_or-replicate 17 k.door 0 0 (omega (arith, t.most, f.most))) c.keepers f.keepers in
    let taken = head-back h.n h.load h.cap h.grid f.one f.most f.load f.cap f.grid in
    line-gives (head_fields h) _ 1 Head (Doors 1) unread d _ taken.0 taken.1
    (rw (le-ltb h.n 1 f.one) at (gives-doors c.doors (map_from row_fields 0 c.rows ++ ps) 1 2 d e f.most (omega arith) (omega (arith, f.many)) f.doors
    (λ m. rw (le-ltb h.n 0 (omega arith)) at (gives-rows c.rows ps 0 m u e f.most (omega (arith, f.places)) f.rows
    (λ n. gives-pairs c.pairs ks n v e f.most f.pairs
    (λ o. gives-keepers c.keepers o Pairs w (λ _ _. (refl, λ _. refl)) f.most f.keepers f.once none))))))

-- a text of the form is accepted, and gives the round of that form
pub form-accepted : (text : List ℕ) (d : Draft) → HasForm text d → read_text text ≡ Ok d
form-accepted text d h = rw (← h.same, ← h.round) (gives-all h.content h.fits)

-- a refused text has not the form
pub refused_form : (text : List ℕ) (r : Refusal) → Err r ≡ read_text text → (d : Draft) → ¬ HasForm text d
refused_form text r e d h = let t = form-accepted text d h in absurd cc
