-- A refused line is not as due at the field where it is refused.
use Rattle.std.proofs.Common.{◌≡◌, ◌&&◌, ℕ, suc, zero, ◌+◌, ◌-◌, ◌≤◌, List, [], length, Ok, Err, Result, refl, arith, slice_index, slice_index_or, slice_set, Bool, bit_or, ◌^◌, inl, inr, ◌==◌, drop, true, false, nat_le, subst}
use Rattle.std.specs.Bool.{if◌then◌else◌}
use Rattle.std.specs.Str.Parse.{digits_value}
use Rattle.doors.specs.Sets.{Has}
use Rattle.doors.proofs.Sets.{has-none, has_more}
use Rattle.text.specs.Number.{plain, minus, dash}
use Rattle.std.proofs.lemmas.Bool.Decides.{nat_tests}
use Rattle.text.specs.declared.refusal.Refusal.{Refusal}
use Rattle.text.specs.declared.refusal.Refusal.TheVariants as why
use Rattle.text.specs.declared.kind.Kind.{Kind}
use Rattle.text.specs.declared.kind.Kind.TheVariants as kinds
use Rattle.text.specs.declared.stage.Stage.{Stage}
use Rattle.text.specs.declared.stage.Stage.TheVariants as stages
use Rattle.text.specs.declared.draft.Draft.{Draft}
use Rattle.text.specs.declared.fault.Item.{Item}
use Rattle.text.specs.declared.fault.Item.TheVariants as says
use Rattle.text.specs.declared.fault.Due.TheVariants as wanted
use Rattle.text.specs.Codes.{field_of}
use Rattle.text.specs.Kinds.{named}
use Rattle.text.specs.Steps.{Ready, kind_step, line_step}
use Rattle.text.specs.Lines.{and_then, number_at, change_at, dash_at, counted, in_turn, row_from, grid_of, head_of, door_due, row_due, pair_of, keeper_of}
use Rattle.text.specs.Faults.{due_in_field, due_in_keeper, fields_due, keeperless_doors, IsNumberIn, due_at, IsAsDue, IsKindDue, number_or_zero}

-- what is not as due, at a field that a line may have
pub record Unmet (s : Stage) (d : Draft) (fs : List (List ℕ)) (e : Refusal) : Type 0 where
  pub some : 1 ≤ field_of e
  pub most : field_of e ≤ 18
  pub unmet : ¬ IsAsDue (due_at s d fs e) fs (field_of e)

-- each refusal that comes of it is at a field that is not as due
record Misses (s : Stage) (d : Draft) (fs : List (List ℕ)) {A : Type 0} (r : Result A Refusal) : Type 0 where
  all : (e : Refusal) → r ≡ Err e → Unmet s d fs e

module _ {s : Stage} {d : Draft} {fs : List (List ℕ)} where
  good : {A : Type 0} {x : A} → Misses s d fs (Ok x)
  good = record { all = λ e q. grind (arith, q) }

  miss : {A : Type 0} (e : Refusal) → Unmet s d fs e → Misses s d fs {A = A} (Err e)
  miss e u = record { all = λ e' q. subst (Unmet s d fs) (grind (arith, q)) u }

  -- what comes first is refused so, and what comes after a value of it
  bind : {A B : Type 0} (a : Result A Refusal) (k : A → Result B Refusal) → Misses s d fs a → ((x : A) → a ≡ Ok x → Misses s d fs (k x)) → Misses s d fs (and_then a k)
  bind (Ok x) k h g = g x refl
  bind (Err e) k h g = miss e (h.all e refl)

  -- what comes only in one of two cases
  either : {A : Type 0} (b : Bool) {x y : Result A Refusal} → (b ≡ true → Misses s d fs x) → (b ≡ false → Misses s d fs y) → Misses s d fs (if b then x else y)
  either true f g = f refl
  either false f g = g refl

-- the number that stands in a field, by its tests
number_by : (line k low high : ℕ) (fs : List (List ℕ)) (x : ℕ) → number_at line fs k low high ≡ Ok x → (x ≡ digits_value 10 (slice_index_or fs (k - 1) [])) × (number_or_zero fs k low high ≡ x)
number_by line k low high fs x q = grind (arith, nat_tests, q)

-- a door of that set has no keeper
free-door : (n : ℕ) (keepers : List ℕ) (j : ℕ) → Has (keeperless_doors n keepers) j → slice_index keepers j ≡ 0
free-door zero keepers j h = absurd (has-none j h)
free-door (suc k) keepers j h = by_test _ refl (free-door k keepers j) h
  where
    by_test : (b : Bool) → (slice_index keepers (suc k) == 0) ≡ b → (Has (keeperless_doors k keepers) j → slice_index keepers j ≡ 0)
        → Has (if b then bit_or (keeperless_doors k keepers) (2 ^ suc k) else keeperless_doors k keepers) j → slice_index keepers j ≡ 0
    by_test true p f l = elim (has_more (keeperless_doors k keepers) (suc k) j l) [
      | inl e ↦ rw e (grind (arith, nat_tests, p))
      | inr r ↦ f r
    ]
    by_test false p f l = f l

module _ (s : Stage) (d : Draft) (fs : List (List ℕ)) (line : ℕ) where
  -- the bytes of field k
  abbrev bytes_at : ℕ → List ℕ
  bytes_at k = slice_index_or fs (k - 1) []

  number_miss : (k low high : ℕ) (b c : Bool) → 1 ≤ k → k ≤ 18 → (IsAsDue (due_in_field s d fs k) fs k → IsNumberIn low high (bytes_at k))
      → plain (bytes_at k) ≡ b → (nat_le low (digits_value 10 (bytes_at k)) && nat_le (digits_value 10 (bytes_at k)) high) ≡ c
      → Misses s d fs (if b then (if c then Ok (digits_value 10 (bytes_at k)) else Err (why.OutOfRange line k)) else Err (why.NotNumber line k))
  number_miss k low high true true l m h p q = good
  number_miss k low high true false l m h p q = miss _ (record { some = l; most = m; unmet = λ x. let y = h x in grind (arith, nat_tests, q, y) })
  number_miss k low high false c l m h p q = miss _ (record { some = l; most = m; unmet = λ x. let y = h x in grind (arith, p, y) })

  -- a number from low to high, where no other is as due
  miss_within : (k low high : ℕ) → 1 ≤ k → k ≤ 18 → (IsAsDue (due_in_field s d fs k) fs k → IsNumberIn low high (bytes_at k)) → Misses s d fs (number_at line fs k low high)
  miss_within k low high l m h = number_miss k low high _ _ l m h refl refl

  -- a number from low to high, where that is what is due
  miss_number : (item : Item) (k low high : ℕ) → 1 ≤ k → k ≤ 18 → due_in_field s d fs k ≡ wanted.Number item low high → Misses s d fs (number_at line fs k low high)
  miss_number item k low high l m h = miss_within k low high l m (rw h (λ x. x))

  -- the number that is due, out of a wider range
  miss_turn : (item : Item) (low high due : ℕ) → low ≤ due → due ≤ high → due_in_field s d fs 2 ≡ wanted.Number item due due → Misses s d fs (in_turn low high due line fs)
  miss_turn item low high due a b h =
      bind _ _ (miss_within 2 low high (omega arith) (omega arith) (rw h (λ x. (x.0, omega (arith, x.1), omega (arith, x.1))))) (λ v q.
      either (v == due) (λ _. good) (λ t. miss (why.OutOfTurn line 2) (record { some = omega arith; most = omega arith; unmet = rw h (λ x. let y = number_by line 2 low high fs v q in grind (arith, nat_tests, t, x, y)) })))

  change_miss : (j k : ℕ) (b c m w : Bool) → 1 ≤ k → k ≤ 18 → due_in_field s d fs k ≡ wanted.Change j
      → plain (bytes_at k) ≡ b → nat_le (digits_value 10 (bytes_at k)) 99 ≡ c → minus (bytes_at k) ≡ m → nat_le (digits_value 10 (drop 1 (bytes_at k))) 99 ≡ w → Misses s d fs (change_at line fs k)
  change_miss j k true true m w l u h p q r t = rw (p, q) good
  change_miss j k true false m w l u h p q r t = rw (p, q) (miss _ (record { some = l; most = u; unmet = rw (h, p, q) (λ x. grind (arith, x)) }))
  change_miss j k false c true true l u h p q r t = rw (p, r, t) good
  change_miss j k false c true false l u h p q r t = rw (p, r, t) (miss _ (record { some = l; most = u; unmet = rw (h, p, r, t) (λ x. grind (arith, x)) }))
  change_miss j k false c false w l u h p q r t = rw (p, r) (miss _ (record { some = l; most = u; unmet = rw (h, p, r) (λ x. grind (arith, x)) }))

  miss_change : (j k : ℕ) → 1 ≤ k → k ≤ 18 → due_in_field s d fs k ≡ wanted.Change j → Misses s d fs (change_at line fs k)
  miss_change j k l u h = change_miss j k _ _ _ _ l u h refl refl refl refl

  miss_dash : (i k : ℕ) → 1 ≤ k → k ≤ 18 → due_in_field s d fs k ≡ wanted.Dash i → Misses s d fs (dash_at line fs k)
  miss_dash i k l u h = either (dash (bytes_at k)) (λ _. good) (λ t. miss (why.NotNumber line k) (record { some = l; most = u; unmet = rw h (λ x. grind (arith, t, x)) }))

  -- the count of fields is not the one that is due
  miss_count : {A : Type 0} (k least most : ℕ) (r : Result A Refusal) → fields_due (named (slice_index_or fs 0 [])) d.n ≡ wanted.Fields (named (slice_index_or fs 0 [])) least most
      → (least ≤ length fs → length fs ≤ most → length fs ≡ k) → Misses s d fs r → Misses s d fs (counted k line fs r)
  miss_count k least most r h a b = either (length fs == k) (λ _. b) (λ t. miss (why.FieldCount line) (record { some = omega arith; most = omega arith; unmet = rw h (λ x. grind (arith, nat_tests, t, a x.0 x.1)) }))

  -- the grid of a round line of five fields
  miss_grid : s ≡ stages.Head → Misses s d fs (grid_of line fs)
  miss_grid e = either (length fs == 5) (λ _. bind _ _ (miss_number says.Grid 5 1 60 (omega arith) (omega arith) (rw e refl)) (λ _ _. good)) (λ _. good)

  -- the fields of the round line
  miss_head : s ≡ stages.Head → named (slice_index_or fs 0 []) ≡ kinds.Round → Misses s d fs (head_of line fs)
  miss_head e k =
      miss_count _ 4 5 _ (rw k refl) (λ a b. grind (arith, nat_tests, a, b))
      (bind _ _ (miss_number says.Doors 2 1 16 (omega arith) (omega arith) (rw e refl)) (λ _ _.
      bind _ _ (miss_number says.StartLoad 3 0 999 (omega arith) (omega arith) (rw e refl)) (λ load q.
      bind _ _ (miss_number says.Cap 4 load 999 (omega arith) (omega arith) (rw (e, (number_by line 3 0 999 fs load q).1) refl)) (λ _ _.
      bind _ _ (miss_grid e) (λ _ _. good)))))

  -- the fields of the line of door j
  miss_door : (j : ℕ) → s ≡ stages.Doors j → named (slice_index_or fs 0 []) ≡ kinds.Door → 1 ≤ j → j ≤ d.n → Misses s d fs (door_due d.n j line fs)
  miss_door j e k l u =
      miss_count 7 7 7 _ (rw k refl) (λ a b. omega (arith, a, b))
      (bind _ _ (miss_turn says.Door 1 d.n j l u (rw e refl)) (λ _ _.
      bind _ _ (miss_number (says.Opens j) 3 0 9999 (omega arith) (omega arith) (rw e refl)) (λ _ _.
      bind _ _ (miss_number (says.Closes j) 4 0 9999 (omega arith) (omega arith) (rw e refl)) (λ _ _.
      bind _ _ (miss_number (says.DueMinute j) 5 0 9999 (omega arith) (omega arith) (rw e refl)) (λ _ _.
      bind _ _ (miss_number (says.Work j) 6 1 999 (omega arith) (omega arith) (rw e refl)) (λ _ _.
      bind _ _ (miss_change j 7 (omega arith) (omega arith) (rw e refl)) (λ _ _. good)))))))

  -- the drives from place i to the m doors from j on
  miss_row : (i m j : ℕ) (row : List ℕ) → s ≡ stages.Drives i → 1 ≤ j → j + m ≤ 17 → Misses s d fs (row_from m i j line fs row)
  miss_row i zero j row e l u = good
  miss_row i (suc m) j row e l u =
      bind _ _ (either _
      (λ t. miss_dash i (j + 2) (omega arith) (omega arith) (rw e (grind (arith, nat_tests, t, l))))
      (λ t. miss_number (says.Drive i j) (j + 2) 0 999 (omega arith) (omega arith) (rw e (grind (arith, nat_tests, t, l)))))
      (λ leg _. miss_row i m (j + 1) (slice_set row j leg) e (omega arith) (omega arith))

  -- the drives from place i
  miss_drive : (i : ℕ) → s ≡ stages.Drives i → named (slice_index_or fs 0 []) ≡ kinds.Drive → i ≤ d.n → d.n ≤ 16 → Misses s d fs (row_due d.n i line fs)
  miss_drive i e k u v =
      miss_count (d.n + 2) (d.n + 2) (d.n + 2) _ (rw k refl) (λ a b. omega (arith, a, b))
      (bind _ _ (miss_turn says.Place 0 d.n i (omega arith) u (rw e refl)) (λ _ _. miss_row i d.n 1 _ e (omega arith) (omega (arith, v))))

  -- the fields of a first line
  miss_pair : s ≡ stages.Pairs → named (slice_index_or fs 0 []) ≡ kinds.First → Misses s d fs (pair_of d.n line fs)
  miss_pair e k =
      miss_count 3 3 3 _ (rw k refl) (λ a b. omega (arith, a, b))
      (bind _ _ (miss_number says.First 2 1 d.n (omega arith) (omega arith) (rw (e, k) refl)) (λ i q.
      bind _ _ (miss_within 3 1 d.n (omega arith) (omega arith) (rw (e, k) (λ x. x.0))) (λ j r.
      either (i == j) (λ t. miss (why.OutOfTurn line 3) (record {
        some = omega arith;
        most = omega arith;
        unmet = rw (e, k) (λ x.
            x.1 (grind (arith, nat_tests, t, number_by line 2 1 d.n fs i q, number_by line 3 1 d.n fs j r)));
      })) (λ _. good))))

  -- the fields of a keeper line
  miss_keeper : ((k : ℕ) → due_in_field s d fs k ≡ due_in_keeper d.n d.keepers k) → named (slice_index_or fs 0 []) ≡ kinds.Keeper → Misses s d fs (keeper_of d.n d.keepers line fs)
  miss_keeper e k =
      miss_count 3 3 3 _ (rw k refl) (λ a b. omega (arith, a, b))
      (bind _ _ (miss_within 2 1 d.n (omega arith) (omega arith) (rw (e 2) (λ x. x.0))) (λ j q.
      either (slice_index d.keepers j == 0) (λ _. bind _ _ (miss_number says.Keeper 3 1 99 (omega arith) (omega arith) (e 3)) (λ _ _. good))
      (λ t. miss (why.SecondKeeper line 2) (record {
        some = omega arith;
        most = omega arith;
        unmet = rw (e 2) (λ x.
            let z = free-door d.n d.keepers (digits_value 10 (bytes_at 2)) x.1 in grind (arith, nat_tests, t, z, number_by line 2 1 d.n fs j q));
      }))))

-- a line of a kind that is not due
wrong : (s : Stage) (d : Draft) (fs : List (List ℕ)) (line : ℕ) → ¬ IsKindDue s (named (slice_index_or fs 0 [])) → Misses s d fs {A = Stage × Draft} (Err (why.NotDue line))
wrong s d fs line n = miss (why.NotDue line) (record { some = omega arith; most = omega arith; unmet = n })

-- a line of any kind
by_kind : (s : Stage) (k : Kind) (d : Draft) (fs : List (List ℕ)) (line : ℕ) → Ready s d → named (slice_index_or fs 0 []) ≡ k → Misses s d fs (kind_step s k d line fs)
by_kind stages.Head kinds.Round d fs line r e = bind _ _ (miss_head stages.Head d fs line refl e) (λ _ _. good)
by_kind stages.Head kinds.Door d fs line r e = wrong stages.Head d fs line (λ x. grind (arith, e, x))
by_kind stages.Head kinds.Drive d fs line r e = wrong stages.Head d fs line (λ x. grind (arith, e, x))
by_kind stages.Head kinds.First d fs line r e = wrong stages.Head d fs line (λ x. grind (arith, e, x))
by_kind stages.Head kinds.Keeper d fs line r e = wrong stages.Head d fs line (λ x. grind (arith, e, x))
by_kind stages.Head kinds.Other d fs line r e = wrong stages.Head d fs line (λ x. grind (arith, e, x))
by_kind (stages.Doors j) kinds.Round d fs line r e = wrong (stages.Doors j) d fs line (λ x. grind (arith, e, x))
by_kind (stages.Doors j) kinds.Door d fs line r e = bind _ _ (miss_door (stages.Doors j) d fs line j refl e r.2 r.0) (λ _ _. good)
by_kind (stages.Doors j) kinds.Drive d fs line r e = wrong (stages.Doors j) d fs line (λ x. grind (arith, e, x))
by_kind (stages.Doors j) kinds.First d fs line r e = wrong (stages.Doors j) d fs line (λ x. grind (arith, e, x))
by_kind (stages.Doors j) kinds.Keeper d fs line r e = wrong (stages.Doors j) d fs line (λ x. grind (arith, e, x))
by_kind (stages.Doors j) kinds.Other d fs line r e = wrong (stages.Doors j) d fs line (λ x. grind (arith, e, x))
by_kind (stages.Drives i) kinds.Round d fs line r e = wrong (stages.Drives i) d fs line (λ x. grind (arith, e, x))
by_kind (stages.Drives i) kinds.Door d fs line r e = wrong (stages.Drives i) d fs line (λ x. grind (arith, e, x))
by_kind (stages.Drives i) kinds.Drive d fs line r e = bind _ _ (miss_drive (stages.Drives i) d fs line i refl e r.0 r.1) (λ _ _. good)
by_kind (stages.Drives i) kinds.First d fs line r e = wrong (stages.Drives i) d fs line (λ x. grind (arith, e, x))
by_kind (stages.Drives i) kinds.Keeper d fs line r e = wrong (stages.Drives i) d fs line (λ x. grind (arith, e, x))
by_kind (stages.Drives i) kinds.Other d fs line r e = wrong (stages.Drives i) d fs line (λ x. grind (arith, e, x))
by_kind stages.Pairs kinds.Round d fs line r e = wrong stages.Pairs d fs line (λ x. grind (arith, e, x))
by_kind stages.Pairs kinds.Door d fs line r e = wrong stages.Pairs d fs line (λ x. grind (arith, e, x))
by_kind stages.Pairs kinds.Drive d fs line r e = wrong stages.Pairs d fs line (λ x. grind (arith, e, x))
by_kind stages.Pairs kinds.First d fs line r e = bind _ _ (miss_pair stages.Pairs d fs line refl e) (λ _ _. good)
by_kind stages.Pairs kinds.Keeper d fs line r e = bind _ _ (miss_keeper stages.Pairs d fs line (λ k. rw e refl) e) (λ _ _. good)
by_kind stages.Pairs kinds.Other d fs line r e = wrong stages.Pairs d fs line (λ x. grind (arith, e, x))
by_kind stages.Keepers kinds.Round d fs line r e = wrong stages.Keepers d fs line (λ x. grind (arith, e, x))
by_kind stages.Keepers kinds.Door d fs line r e = wrong stages.Keepers d fs line (λ x. grind (arith, e, x))
by_kind stages.Keepers kinds.Drive d fs line r e = wrong stages.Keepers d fs line (λ x. grind (arith, e, x))
by_kind stages.Keepers kinds.First d fs line r e = wrong stages.Keepers d fs line (λ x. grind (arith, e, x))
by_kind stages.Keepers kinds.Keeper d fs line r e = bind _ _ (miss_keeper stages.Keepers d fs line (λ k. rw e refl) e) (λ _ _. good)
by_kind stages.Keepers kinds.Other d fs line r e = wrong stages.Keepers d fs line (λ x. grind (arith, e, x))

-- a line that is refused is not as due there
pub refused_unmet : (s : Stage) (d : Draft) (fs : List (List ℕ)) (line : ℕ) (e : Refusal) → Ready s d → line_step s d line fs ≡ Err e → Unmet s d fs e
refused_unmet s d fs line e r h = (by_kind s _ d fs line r refl).all e h
