-- Sets of doors by the test `has`; part orders and their beginnings, the van on its way, and legs.
use Rattle.std.proofs.lemmas.Bool.Decides.{nat_tests}
use Rattle.std.proofs.Common.{◌≡◌, ℕ, zero, suc, ◌+◌, ◌<◌, ◌≤◌, true, false, eqb, ◌⊎◌, List, [], ◌∷◌, ◌++◌, length, Some, None, fold, Option, unwrap_or, refl, ap, subst, inl, inr, append_assoc, arith, length-append, ⊎_elim}
use Rattle.std.proofs.lemmas.List.Sums.{fold_push}
use Rattle.std.proofs.lemmas.Bool.{cases_eq}
use Rattle.std.specs.List.{range_with_len}
use Rattle.doors.specs.Orders.{StandsIn, IsPartOrder}
use Rattle.doors.specs.Sets.{has}
use Rattle.round.specs.Clock.{door, drive}
use Rattle.round.specs.declared.table.Round.{Round}
use Rattle.rules.specs.Rules.{RuleSense, state_of}
use Rattle.tallies.specs.Tallies.{TallySense}
use Rattle.orders.specs.Costs.{next_trip, trip_after}
use Rattle.orders.specs.Times.{yard, next_van, van_after, KeepsHours}
use Rattle.orders.specs.declared.van.Van.{Van}
use Rattle.layers.specs.Labels.{bit_of, leg_step, leg}
use Rattle.layers.specs.LabelLaws.{KeepsHoursFrom}
use lib.Bits.{bit_and, bit_or}
use lib.Count.{ones}
use Rattle.doors.proofs.Sets.{digit_and, digit-one, digit-other, has-none, has_left, has_right, has_either, has-true, true-has, length-within}

pub or_left : (a b j : ℕ) → has a j ≡ true → has (bit_or a b) j ≡ true
or_left a b j e = true-has (bit_or a b) j (has_left a b j (has-true a j e))

pub or_right : (a b j : ℕ) → has b j ≡ true → has (bit_or a b) j ≡ true
or_right a b j e = true-has (bit_or a b) j (has_right a b j (has-true b j e))

pub or_split : (a b j : ℕ) → has (bit_or a b) j ≡ true → (has a j ≡ true) ⊎ (has b j ≡ true)
or_split a b j e = ⊎_elim (λ h. inl (true-has a j h)) (λ h. inr (true-has b j h)) (has_either a b j (has-true (bit_or a b) j e))

pub and_left : (a b j : ℕ) → has (bit_and a b) j ≡ true → has a j ≡ true
and_left a b j e = true-has a j (omega (arith, digit_and a b j, has-true (bit_and a b) j e))

pub and_right : (a b j : ℕ) → has (bit_and a b) j ≡ true → has b j ≡ true
and_right a b j e = true-has b j (omega (arith, digit_and a b j, has-true (bit_and a b) j e))

pub none_has : (j : ℕ) → has 0 j ≡ true → ⊥
none_has j e = has-none j (has-true 0 j e)

pub one-self : (j : ℕ) → has (bit_of j) j ≡ true
one-self j = true-has (bit_of j) j (digit-one j)

pub one_only : (k j : ℕ) → has (bit_of k) j ≡ true → j ≡ k
one_only k j e = ⊎_elim (λ h. h) (λ n. absurd (omega (arith, digit-other k j n, has-true (bit_of k) j e))) (cases_eq j k)

pub ones_in : (n m : ℕ) (w : List ℕ) → IsPartOrder n w → ((j : ℕ) → StandsIn j w → has m j ≡ true) → length w ≤ ones m
ones_in n m w p h = length-within n m w p (λ j i. has-true m j (h j i))

-- ---- lists of doors
pub part-tail : (n : ℕ) (u v : List ℕ) → IsPartOrder n (u ++ v) → IsPartOrder n v
part-tail n [] v p = p
part-tail n (x ∷ u) v p = part-tail n u v p.2

pub length-snoc : {A : Type 0} (p : List A) (j : A) → length (p ++ (j ∷ [])) ≡ suc (length p)
length-snoc p j = omega (arith, length-append p (j ∷ []))

pub snoc-assoc : (p w : List ℕ) (j : ℕ) → (p ++ (j ∷ [])) ++ w ≡ p ++ (j ∷ w)
snoc-assoc p w j = append_assoc p (j ∷ []) w

-- ---- one door more
pub trip-snoc : {V : Type 0} (r : Round) (tally : TallySense V) (p : List ℕ) (j : ℕ) → trip_after r tally (p ++ (j ∷ [])) ≡ next_trip r tally (trip_after r tally p) j
trip-snoc r tally p j = fold_push (next_trip r tally) (record { van = yard; cost = tally.start }) p j

pub van-snoc : (r : Round) (p : List ℕ) (j : ℕ) → van_after r (p ++ (j ∷ [])) ≡ next_van r (van_after r p) j
van-snoc r p j = fold_push (next_van r) yard p j

pub state-snoc : {S : Type 0} (rule : RuleSense S) (p : List ℕ) (j : ℕ) → state_of rule (p ++ (j ∷ [])) ≡ rule.step (state_of rule p) j
state-snoc rule p j = fold_push rule.step rule.start p j

-- going on through w from the van a, no door finishes after it closes
abbrev pub TimelyFrom : Round → Van → List ℕ → Type 0
TimelyFrom = KeepsHoursFrom

pub timely-from : (r : Round) (p w : List ℕ) → KeepsHours r (p ++ w) → TimelyFrom r (van_after r p) w
timely-from r p [] h = tt
timely-from r p (j ∷ w) h = (
  subst (λ (a : Van). a.finish ≤ (door r j).closes) (van-snoc r p j) (h p j w refl),
  rw (← (van-snoc r p j)) (timely-from r (p ++ (j ∷ [])) w (rw (snoc-assoc p w j) h)),
)

-- ---- legs
abbrev or_zero : Option ℕ → ℕ
or_zero o = unwrap_or o 0

-- the places i, i + 1, .. , k of them, after what is known from those below
abbrev legs : Round → ℕ → ℕ → ℕ → ℕ → Option ℕ → Option ℕ
legs r m j k i o = fold (leg_step r m j) o (range_with_len i k)

module _ (r : Round) (m j : ℕ) where
  legs-below : (k i d d₀ : ℕ) → d ≤ d₀ → or_zero (legs r m j k i (Some d)) ≤ d₀
  unfolding leg_step
  legs-below zero i d d₀ h = h
  legs-below (suc k) i d d₀ h = grind (arith, nat_tests, h, legs-below k (i + 1))

  legs-le : (k i t : ℕ) (o : Option ℕ) → i ≤ t → t < i + k → has m t ≡ true → eqb t j ≡ false → or_zero (legs r m j k i o) ≤ drive r t j
  unfolding leg_step
  legs-le zero i t o a b h g = absurd (omega arith)
  legs-le (suc k) i t o a b h g = grind (arith, nat_tests, h, g, legs-le k (i + 1) t, legs-below k (i + 1))

  pub leg-le : (t : ℕ) → t ≤ r.n → has m t ≡ true → eqb t j ≡ false → leg r m j ≤ drive r t j
  unfolding leg
  leg-le t h a b = legs-le (r.n + 1) 0 t None (omega arith) (omega arith) a b

  legs-bound : (k i : ℕ) (o : Option ℕ) → or_zero o ≤ 999 → or_zero (legs r m j k i o) ≤ 999
  unfolding leg_step
  legs-bound zero i o h = h
  legs-bound (suc k) i o h = grind (arith, nat_tests, h, r.legs i j, legs-bound k (i + 1))

  pub leg-bound : leg r m j ≤ 999
  unfolding leg
  leg-bound = legs-bound (r.n + 1) 0 None (omega arith)

-- from a single last place
module _ (r : Round) (t j : ℕ) where
  legs-stay : (k i : ℕ) → legs r (bit_of t) j k i (Some (drive r t j)) ≡ Some (drive r t j)
  unfolding leg_step
  legs-stay zero i = refl
  legs-stay (suc k) i = grind (arith, nat_tests, one_only t i, legs-stay k (i + 1))

  legs_one : (k i : ℕ) → i ≤ t → t < i + k → eqb t j ≡ false → legs r (bit_of t) j k i None ≡ Some (drive r t j)
  unfolding leg_step
  legs_one zero i a b g = absurd (omega arith)
  legs_one (suc k) i a b g = grind (arith, nat_tests, a, b, g, one_only t i, one-self t, legs-stay k (i + 1), legs_one k (i + 1))

  pub leg-one : t ≤ r.n → eqb t j ≡ false → leg r (bit_of t) j ≡ drive r t j
  unfolding leg
  leg-one h g = ap or_zero (legs_one (r.n + 1) 0 (omega arith) (omega arith) g)
