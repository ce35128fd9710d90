-- The round of contents in range is lawful.
use Rattle.std.proofs.Common.{◌≡◌, ◌⊎◌, ℕ, zero, suc, ◌+◌, ◌<◌, ◌≤◌, List, [], ◌∷◌, map, fold, length, slice_index, slice_index_or, slice_set, replicate, pos, negsuc, ◌≤ℤ◌, Option, Some, None, refl, ⊎_elim, arith, length-set}
use borrow.Author.Differences.{ints}
use Rattle.std.specs.List.{All}
use Rattle.std.specs.Option.{unwrap_or}
use Rattle.std.proofs.lemmas.Bool.{cases_eq}
use Rattle.std.proofs.lemmas.Grind.{get_or-set_at}
use Rattle.std.proofs.lemmas.List.{get_or-set_other, length-map, length-replicate}
use Rattle.std.proofs.lemmas.List.Elements.{All-head, All-tail}
use Rattle.round.specs.Tables.{blank, at}
use Rattle.round.specs.declared.door.Door as door
use Rattle.text.specs.declared.line.Keeper as keeper
use Rattle.text.specs.Drafts.{with_kept}
use Rattle.text.specs.Form.{AllFrom, DoorFits, GridFits, LegFits, RowFits, KeeperFits, Fits, Content, fill, row_of, round_of}

-- what holds of each element at its place, and of the other places of a table, holds of the table that they fill
fill-each : {A : Type 0} (P : ℕ → A → Type 0) (d : A) (xs : List A) (i : ℕ) (t : List A) → i + length xs ≤ length t → AllFrom P i xs → ((k : ℕ) → (k < i) ⊎ (i + length xs ≤ k) → P k (slice_index_or t k d)) → (k : ℕ) → P k (slice_index_or (fill i xs t) k d)
fill-each P d [] i t l f h k = h k (grind arith)
fill-each P d (x ∷ xs) i t l f h k =
    fill-each P d xs (i + 1) (slice_set t i x) (omega (arith, length-set t i x)) f.1
    (λ m o. ⊎_elim (λ e. rw (get_or-set_at t i m x d e (omega arith), e) f.0) (λ n. rw (get_or-set_other t i m x d n) (h m (grind arith))) (cases_eq m i)) k

-- what holds of x, and of the default, holds of each copy of x
replicated : {A : Type 0} (P : A → Type 0) (m : ℕ) (x d : A) → P x → P d → (k : ℕ) → P (slice_index_or (replicate m x) k d)
replicated P zero x d p q k = q
replicated P (suc m) x d p q zero = p
replicated P (suc m) x d p q (suc k) = replicated P m x d p q k

-- a door's numbers are in range, but for work that may be 0 where k is none of the n doors
pub record Fair (n k : ℕ) (x : door.Door) : Type 0 where
  pub opens : x.opens ≤ 9999
  pub closes : x.closes ≤ 9999
  pub due : x.due ≤ 9999
  pub some : 1 ≤ k → k ≤ n → 1 ≤ x.work
  pub work : x.work ≤ 999
  pub low : negsuc 98 ≤ℤ x.change
  pub high : x.change ≤ℤ pos 99

-- doors in range are fair at any place
fair-doors : (n : ℕ) (xs : List door.Door) (i : ℕ) → All DoorFits xs → AllFrom (Fair n) i xs
fair-doors n [] i f = tt
fair-doors n (x ∷ xs) i f =
    let h = All-head DoorFits x xs f in
    (record { opens = h.opens; closes = h.closes; due = h.due; some = λ _ _. h.some; work = h.work; low = h.low; high = h.high }, fair-doors n xs (i + 1) (All-tail DoorFits x xs f))

-- so is a blank one where no door stands
fair-blank : (n k : ℕ) → (k < 1) ⊎ (1 + n ≤ k) → Fair n k blank
fair-blank n k o = record { opens = omega arith; closes = omega arith; due = omega arith; some = λ l m. absurd (omega arith); work = omega arith; low = omega (arith, ints); high = omega (arith, ints) }

-- the doors of the round of contents in range
pub doors-fair : (c : Content) → Fits c → (k : ℕ) → Fair c.head.n k (at (round_of c).doors k)
doors-fair c f =
    let n = c.head.n in
    fill-each (Fair n) blank c.doors 1 (replicate 17 blank) (omega (arith, f.many, f.most, length-replicate 17 blank)) (fair-doors n c.doors 1 f.doors)
    (λ k o. let b = fair-blank n k (grind (arith, f.many)) in replicated (Fair n k) 17 blank blank b b k)

-- the grid, or 1
pub grid-fair : (g : Option ℕ) → GridFits g → (1 ≤ unwrap_or g 1) × (unwrap_or g 1 ≤ 60)
grid-fair None f = (omega arith, omega arith)
grid-fair (Some v) f = f

-- a row of drives from i
abbrev FairRow : ℕ → List ℕ → Type 0
FairRow i row = (k : ℕ) → LegFits i k (slice_index_or row k 0)

-- a row of zeros is one
blank-row : (i : ℕ) → FairRow i (replicate 17 0)
blank-row i k = replicated (λ v. LegFits i k v) 17 0 0 (omega arith, λ _. refl) (omega arith, λ _. refl) k

-- rows in range are such rows
fair-rows : (n i : ℕ) (rs : List (List ℕ)) → n ≤ 16 → AllFrom (RowFits n) i rs → AllFrom FairRow i (map row_of rs)
fair-rows n i [] l f = tt
fair-rows n i (r ∷ rs) l f =
    (fill-each (LegFits i) 0 r 1 (replicate 17 0) (omega (arith, f.0.0, length-replicate {A = ℕ} 17 0)) f.0.1 (λ k _. blank-row i k), fair-rows n (i + 1) rs l f.1)

-- the drives of the round of contents in range
pub rows-fair : (c : Content) → Fits c → (i k : ℕ) → LegFits i k (slice_index_or (slice_index_or (round_of c).drives i []) k 0)
rows-fair c f =
    fill-each FairRow [] (map row_of c.rows) 0 (replicate 17 (replicate 17 0)) (omega (arith, f.places, f.most, length-map c.rows row_of, length-replicate {A = List ℕ} 17 (replicate 17 0)))
    (fair-rows c.head.n 0 c.rows f.most f.rows) (λ i _. replicated (FairRow i) 17 (replicate 17 0) [] (blank-row i) (λ k. (omega arith, λ _. refl)) i)

-- the number of a keeper at place k: up to 99, and 0 at the yard
abbrev FairKeeper : ℕ → ℕ → Type 0
FairKeeper k v = (v ≤ 99) × (k ≡ 0 → v ≡ 0)

-- keepers in range leave such numbers in a table of them
kept-fair : (n : ℕ) (ks : List keeper.Keeper) (t : List ℕ) → n < length t → All (KeeperFits n) ks → ((i : ℕ) → FairKeeper i (slice_index t i)) → (i : ℕ) → FairKeeper i (slice_index (fold with_kept t ks) i)
kept-fair n [] t l f h i = h i
kept-fair n (k ∷ ks) t l f h i =
    let fits = All-head (KeeperFits n) k ks f in
    kept-fair n ks (with_kept t k) (omega (arith, length-set t k.door k.number)) (All-tail (KeeperFits n) k ks f)
    (λ m. grind (arith, get_or-set_at t k.door m k.number 0, get_or-set_other t k.door m k.number 0, h m, fits)) i

-- the keepers of the round of contents in range
pub keepers-fair : (c : Content) → Fits c → (k : ℕ) → FairKeeper k (slice_index (round_of c).keepers k)
keepers-fair c f =
    kept-fair c.head.n c.keepers (replicate 17 0) (omega (arith, f.most, length-replicate {A = ℕ} 17 0)) f.keepers (λ k. replicated (FairKeeper k) 17 0 0 (omega arith, λ _. refl) (omega arith, λ _. refl) k)
