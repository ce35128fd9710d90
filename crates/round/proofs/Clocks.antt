-- The clock keeps its laws.
use Rattle.std.proofs.Common.{◌≡◌, ℕ, suc, ◌+◌, ◌-◌, ◌*◌, ◌/◌, ◌%◌, ◌<◌, ◌≤◌, max, ⊎_elim, suc-mul, arith}
use Rattle.std.specs.Int.{next_multiple_of}
use Rattle.std.proofs.Math.Nat.{div-add-mod', mod_self, mod-eq_of_lt, mul-mod_left, lt_of_mul-lt-mul_right, mul-le-mul_right}
use Rattle.std.proofs.lemmas.Bool.{cases_eq}
use Rattle.std.proofs.lemmas.Nat.{mod_below}
use Rattle.round.specs.declared.table.Round.{Round}
use Rattle.round.specs.Clock.{door, finish, IsLeastMultiple, ClockLaws}

-- a minute is lifted to a multiple of the grid, by less than a step of it
next_multiple_of-bounds : (m g : ℕ) → 0 < g → (q : ℕ) × (next_multiple_of m g ≡ q * g) × (m ≤ q * g) × (q * g < m + g)
next_multiple_of-bounds m g p =
    let whole = div-add-mod' m g in
    let rest = mod_below m g p in
    ⊎_elim
    (λ e. let all : g - m % g ≡ g = omega (arith, e) in (m / g, rw (all, mod_self g) (omega (arith, e)), omega (arith, e), omega (arith, e)))
    (λ n. (m / g + 1, rw (mod-eq_of_lt {n = g - m % g} {m = g} (omega (arith, n))) (omega arith), omega arith, omega (arith, n)))
    (cases_eq (m % g) 0)

pub least-multiple : (m g : ℕ) → 0 < g → IsLeastMultiple g m (next_multiple_of m g)
least-multiple m g p =
    let q = next_multiple_of-bounds m g p in
    record {
      multiple = rw q.1 (mul-mod_left q.0 g);
      not_below = omega (arith, q.1);
      least = λ k l. let n : q.0 < suc k = lt_of_mul-lt-mul_right g (omega (arith, suc-mul k g)) in rw q.1 (mul-le-mul_right g (omega arith));
    }

-- a later minute is not lifted to an earlier one
next_multiple_of-rises : (m m' g : ℕ) → 0 < g → m ≤ m' → next_multiple_of m g ≤ next_multiple_of m' g
next_multiple_of-rises m m' g p l =
    let q = next_multiple_of-bounds m' g p in
    rw q.1 ((least-multiple m g p).least q.0 (omega arith))

pub clock-laws : (r : Round) → ClockLaws r
unfolding finish
clock-laws r =
    record {
      later = λ f f' g g' j p q. omega (arith, next_multiple_of-rises (max (door r j).opens (f + g)) (max (door r j).opens (f' + g')) r.grid r.grid_one (omega arith));
      after = λ f g j. omega arith;
      bound = λ k f g j p q. let u = next_multiple_of-bounds (max (door r j).opens (f + g)) r.grid r.grid_one in omega (arith, u.1, suc-mul k 2057, r.opens j, r.work j, r.grid_most);
    }
