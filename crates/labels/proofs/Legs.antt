-- The least drives so far, and what is no leg
use Rattle.std.proofs.Common.{◌≡◌, ℕ, zero, suc, ◌+◌, ◌-◌, ◌/◌, ◌^◌, ◌<◌, ◌≤◌, ◌≢◌, min, max, List, map, get_or, Bool, true, cond, not, ◌&&◌, eqb, None, Option, unwrap_or, w32, ap, ◌∙◌, add-one, arith}
use Rattle.std.specs.List.{range_with_len}
use Rattle.std.proofs.lemmas.Bool.Decides.{nat_tests}
use Rattle.std.proofs.lemmas.Grind.{common_steps}
use Rattle.std.proofs.lemmas.List.FromFn.{get_or-map-range_with_len}
use Rattle.std.proofs.lemmas.Nat.{shr-shr, shr_le}
use Rattle.std.proofs.lemmas.Nat.Bits.{bit_at-zero, bit_at-trailing_zeros}
use Rattle.std.specs.Int.{bit_at, trailing_zeros}
use Rattle.std.specs.Int.Count.{trailing_of_zero}
use Rattle.round.specs.declared.table.Round.{Round}
use Rattle.round.specs.Clock.{drive}
use Rattle.doors.specs.Sets.{has}
use Rattle.layers.specs.Labels.{nearest, leg_step, leg}
use Rattle.labels.specs.Passes.{nearest_of, NoneBetween, IsFirstOf}
use Rattle.labels.proofs.Folds.{folded_keeps, folded_counting}

-- ---- the first member from a place on
abbrev zeros : ℕ → ℕ
zeros m = trailing_zeros w32 m

lowest : (m : ℕ) → m < 2 ^ 32 → (zeros m < 32 → bit_at m (zeros m) ≡ 1) × ((i : ℕ) → i < zeros m → bit_at m i ≡ 0)
lowest m fits = grind (arith, trailing_of_zero 32, bit_at-zero, bit_at-trailing_zeros w32 m)

pub none_before : (m a : ℕ) → m < 2 ^ 32 → NoneBetween m a (a + zeros (m / 2 ^ a))
none_before m a fits i ge lt = grind (arith, nat_tests, shr-shr m a (i - a), lowest (m / 2 ^ a) (omega (arith, shr_le m a)))

pub member_there : (m a : ℕ) → m < 2 ^ 32 → zeros (m / 2 ^ a) < 32 → has m (a + zeros (m / 2 ^ a)) ≡ true
member_there m a fits lt = grind (arith, nat_tests, shr-shr m a, lowest (m / 2 ^ a) (omega (arith, shr_le m a)))

-- ---- the drives
picked-most : (t : Bool) (o : Option ℕ) (d : ℕ) → d ≤ 999 → unwrap_or o 0 ≤ 999 → unwrap_or (cond t (nearest o d) o) 0 ≤ 999
picked-most t o d h p = grind (arith, common_steps)

nearest-most : (r : Round) (m j i : ℕ) → unwrap_or (nearest_of r m j i) 0 ≤ 999
unfolding leg_step
nearest-most r m j i =
    folded_keeps (λ o. unwrap_or o 0 ≤ 999) (leg_step r m j) (λ o i h. picked-most (has m i && not (eqb i j)) o (drive r i j) (r.legs i j) h) None
    (range_with_len 0 i) (omega arith)

pub leg_most : (r : Round) (m j : ℕ) → leg r m j ≤ 999
unfolding leg
leg_most r m j = nearest-most r m j (r.n + 1)

-- ---- 1000 for no drive
far-step : (o : Option ℕ) (e : Bool) (d : ℕ) → d ≤ 999 → unwrap_or o 0 ≤ 999 → unwrap_or (cond (not e) (nearest o d) o) 1000 ≡ min (unwrap_or o 1000) (max d (cond e 1000 0))
far-step o e d h p = grind (arith, common_steps)

-- ---- from one member to the next
-- places that are not in the set change nothing
pub nearest_over : (r : Round) (m j a b : ℕ) → a ≤ b → NoneBetween m a b → nearest_of r m j b ≡ nearest_of r m j a
unfolding leg_step
nearest_over r m j a zero le none = grind arith
nearest_over r m j a (suc b) le none =
    grind (arith, add-one, folded_counting (leg_step r m j) None b, none b, nearest_over r m j a b)

pub nearest_next : (r : Round) (m j a i : ℕ) → IsFirstOf m a r.n i
    → nearest_of r m j (i + 1) ≡ cond (not (eqb i j)) (nearest (nearest_of r m j a) (drive r i j)) (nearest_of r m j a)
unfolding leg_step
nearest_next r m j a i first = grind (arith, folded_counting (leg_step r m j) None i, nearest_over r m j a i)

pub far_next : (r : Round) (m j a i : ℕ) → IsFirstOf m a r.n i
    → unwrap_or (nearest_of r m j (i + 1)) 1000 ≡ min (unwrap_or (nearest_of r m j a) 1000) (max (drive r i j) (cond (eqb i j) 1000 0))
far_next r m j a i first =
    ap (λ o. unwrap_or o 1000) (nearest_next r m j a i first) ∙ far-step (nearest_of r m j a) (eqb i j) (drive r i j) (r.legs i j) (nearest-most r m j a)

pub leg_none : (r : Round) (m j : ℕ) → unwrap_or (nearest_of r m j (r.n + 1)) 1000 ≡ 1000 → leg r m j ≡ 0
unfolding leg
leg_none r m j e = grind (arith, common_steps, nearest-most r m j (r.n + 1))

pub leg_some : (r : Round) (m j : ℕ) → unwrap_or (nearest_of r m j (r.n + 1)) 1000 ≢ 1000 → leg r m j ≡ unwrap_or (nearest_of r m j (r.n + 1)) 1000
unfolding leg
leg_some r m j ne = grind (arith, common_steps)

-- ---- 1000 at one place of a line of 32, seen from place 16 - i on
abbrev pub line : List ℕ
line = map (λ m. cond (eqb m 15) 1000 0) (range_with_len 0 32)

pub line_at : (i k : ℕ) → i ≤ 16 → k < 16 → get_or line (16 - i + k) 0 ≡ cond (eqb i (k + 1)) 1000 0
line_at i k most lt =
    get_or-map-range_with_len (λ m. cond (eqb m 15) 1000 0) 0 32 (16 - i + k) (16 - i + k) 0 (omega arith) (omega arith)
    ∙ grind (arith, nat_tests)
