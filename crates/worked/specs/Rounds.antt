-- Rounds of three doors with no drive minutes, for the worked cases.
use Rattle.std.proofs.Common.{sym, subst, arith}
use Rattle.std.specs.Prelude.{◌≡◌, ℕ, zero, suc, ◌≤◌, List, ◌∷◌, replicate, slice_index, ℤ, pos, negsuc, ◌≤ℤ◌, refl}
use Rattle.round.specs.declared.door.Door.{Door}
use Rattle.round.specs.declared.table.Round.{Round}
use Rattle.round.specs.Tables.{blank, at}
use Rattle.round.proofs.Fresh.{all_same, no-leg}

-- a door within its ranges
pub record Fine (d : Door) : Type 0 where
  pub opens : d.opens ≤ 9999
  pub closes : d.closes ≤ 9999
  pub due : d.due ≤ 9999
  pub some : 1 ≤ d.work
  pub work : d.work ≤ 999
  pub low : negsuc 98 ≤ℤ d.change
  pub high : d.change ≤ℤ pos 99

abbrev pub three : Door → Door → Door → List Door
three a b c = blank ∷ a ∷ b ∷ c ∷ replicate 13 blank

pub each : (P : Door → Type 0) (a b c : Door) → P blank → P a → P b → P c → (j : ℕ) → P (at (three a b c) j)
each P a b c z x y w zero = z
each P a b c z x y w (suc zero) = x
each P a b c z x y w (suc (suc zero)) = y
each P a b c z x y w (suc (suc (suc zero))) = w
each P a b c z x y w (suc (suc (suc (suc j)))) = subst P (sym (all_same 13 blank j)) z

pub worked : (a b c : Door) → Fine a → Fine b → Fine c → (j : ℕ) → 1 ≤ j → j ≤ 3 → 1 ≤ (at (three a b c) j).work
worked a b c x y z zero p q = absurd (omega arith)
worked a b c x y z (suc zero) p q = x.some
worked a b c x y z (suc (suc zero)) p q = y.some
worked a b c x y z (suc (suc (suc zero))) p q = z.some
worked a b c x y z (suc (suc (suc (suc j)))) p q = absurd (omega arith)

-- keepers within their range, and none of the yard
pub record FineKeepers (keepers : List ℕ) : Type 0 where
  pub most : (j : ℕ) → slice_index keepers j ≤ 99
  pub yard : slice_index keepers 0 ≡ 0

-- the round of these doors: an empty van with room for `cap`, for each door the set of those that have to come ahead of it, and its
-- keeper, and starts at any minute
abbrev pub round_of : (cap : ℕ) → cap ≤ 999 → List ℕ → (keepers : List ℕ) → FineKeepers keepers → (a b c : Door) → Fine a → Fine b → Fine c → Round
round_of cap h ahead keepers k a b c x y z = record {
  n = 3;
  load = 0;
  cap = cap;
  grid = 1;
  doors = three a b c;
  drives = replicate 17 (replicate 17 0);
  ahead = ahead;
  keepers = keepers;
  one = omega arith;
  most = omega arith;
  within = omega arith;
  small = h;
  grid_one = omega arith;
  grid_most = omega arith;
  opens = each (λ d. d.opens ≤ 9999) a b c (omega arith) x.opens y.opens z.opens;
  closes = each (λ d. d.closes ≤ 9999) a b c (omega arith) x.closes y.closes z.closes;
  due = each (λ d. d.due ≤ 9999) a b c (omega arith) x.due y.due z.due;
  some = worked a b c x y z;
  work = each (λ d. d.work ≤ 999) a b c (omega arith) x.work y.work z.work;
  low = each (λ d. negsuc 98 ≤ℤ d.change) a b c (record { le = tt }) x.low y.low z.low;
  high = each (λ d. d.change ≤ℤ pos 99) a b c (record { le = tt }) x.high y.high z.high;
  legs = λ i j. omega (arith, no-leg 17 17 i j);
  own = λ j. no-leg 17 17 j j;
  keeper_most = k.most;
  keeper_yard = k.yard;
}

-- no door has to come ahead of another
abbrev pub unordered : List ℕ
unordered = replicate 17 0

-- no door has a keeper
abbrev pub unkept : List ℕ
unkept = replicate 17 0

pub unkept-fine : FineKeepers unkept
unkept-fine = record { most = λ j. omega (arith, all_same {A = ℕ} 17 0 j); yard = refl }

-- a door with no change of load
abbrev pub plain : ℕ → ℕ → ℕ → ℕ → Door
plain opens closes due work = record { opens = opens; closes = closes; due = due; work = work; change = pos 0 }

pub fine : (o c d w : ℕ) → o ≤ 9999 → c ≤ 9999 → d ≤ 9999 → 1 ≤ w → w ≤ 999 → Fine (plain o c d w)
fine o c d w p q s t u = record { opens = p; closes = q; due = s; some = t; work = u; low = record { le = tt }; high = record { le = tt } }

-- the round of which the sheet is printed, door 2 closing at c
abbrev pub trio : (c : ℕ) → c ≤ 9999 → Round
trio c h = round_of 0 (omega arith) unordered unkept unkept-fine (plain 0 3 3 2) (plain 4 c 7 2) (plain 3 8 6 3)
    (fine 0 3 3 2 (omega arith) (omega arith) (omega arith) (omega arith) (omega arith))
    (fine 4 c 7 2 (omega arith) h (omega arith) (omega arith) (omega arith))
    (fine 3 8 6 3 (omega arith) (omega arith) (omega arith) (omega arith) (omega arith))

-- always open and never late
abbrev pub easy : Door
easy = plain 0 9999 9999 1

pub easily : Fine easy
easily = fine 0 9999 9999 1 (omega arith) (omega arith) (omega arith) (omega arith) (omega arith)

-- three such doors, where door 2 has to come ahead of door 1
abbrev pub loose : Round
loose = round_of 0 (omega arith) (0 ∷ 4 ∷ replicate 15 0) unkept unkept-fine easy easy easy easily easily easily

-- doors 1 and 2 have one keeper, and no other door has one
abbrev pub two_kept : List ℕ
two_kept = 0 ∷ 7 ∷ 7 ∷ replicate 14 0

pub two_kept-fine : FineKeepers two_kept
two_kept-fine = record { most = kept; yard = refl }
  where
    kept : (j : ℕ) → slice_index two_kept j ≤ 99
    kept zero = omega arith
    kept (suc zero) = omega arith
    kept (suc (suc zero)) = omega arith
    kept (suc (suc (suc j))) = omega (arith, all_same {A = ℕ} 14 0 j)

-- three such doors, of which 1 and 2 have one keeper
abbrev pub shared : Round
shared = round_of 0 (omega arith) unordered two_kept two_kept-fine easy easy easy easily easily easily

abbrev pub loading : ℤ → Door
loading z = record { opens = 0; closes = 9999; due = 9999; work = 1; change = z }

pub up : (z : ℤ) → negsuc 98 ≤ℤ z → z ≤ℤ pos 99 → Fine (loading z)
up z a b = record { opens = omega arith; closes = omega arith; due = omega arith; some = omega arith; work = omega arith; low = a; high = b }

-- three such doors with the changes 1, 1 and −2, and a van that holds 2
abbrev pub boxes : Round
boxes = round_of 2 (omega arith) unordered unkept unkept-fine (loading (pos 1)) (loading (pos 1)) (loading (negsuc 1)) (up (pos 1) (record { le = tt }) (record { le = tt })) (up (pos 1) (record { le = tt }) (record { le = tt })) (up (negsuc 1) (record { le = tt }) (record { le = tt }))
