-- Finishes on the way of a list of doors.
use Rattle.std.proofs.Common.{◌≡◌, ℕ, suc, ◌+◌, ◌<◌, ◌≤◌, true, List, [], ◌∷◌, length, get_or, take, fold, refl, ap, arith, length-take}
use Rattle.std.proofs.lemmas.List.FromFn.{get_or-map-range_with_len, length-map-range_with_len}
use Rattle.std.proofs.lemmas.List.{get_or_past}
use Rattle.std.proofs.lemmas.Bool.{cases_lt}
use Rattle.doors.specs.Orders.{is_part_order}
use Rattle.doors.proofs.Orders.{is-part}
use Rattle.doors.proofs.Sets.{part_length}
use Rattle.round.specs.declared.table.Round.{Round}
use Rattle.round.specs.Clock.{latest_finish, drive}
use Rattle.round.proofs.Clocks.{clock-laws}
use Rattle.orders.specs.declared.van.Van.{Van}
use Rattle.tallies.specs.Tallies.{TallySense}
use Rattle.orders.specs.Costs.{Trip, next_trip, trip_after}
use Rattle.orders.specs.Times.{yard, next_van, van_after, finish_of, finish_minutes}

late-from : (r : Round) (k : ℕ) (a : Van) (w : List ℕ) → a.finish ≤ latest_finish k → (fold (next_van r) a w).finish ≤ latest_finish (k + length w)
late-from r k a [] h = omega arith
late-from r k a (j ∷ w) h =
    let next = (clock-laws r).bound k a.finish (drive r a.last j) j h (r.legs a.last j) in
    let rest = late-from r (suc k) (next_van r a j) w next in
    omega arith

-- after k doors, new or not, no finish passes latest k
late : (r : Round) (w : List ℕ) → finish_of r w ≤ latest_finish (length w)
late r w = let h = late-from r 0 yard w (omega arith) in omega arith

few : (r : Round) (w : List ℕ) → is_part_order r.n w ≡ true → length w ≤ 16
few r w p = omega (arith, r.most, part_length r.n w (is-part r.n w p))

-- on the way of a part order there is a step left
pub soon : (r : Round) (w : List ℕ) (i : ℕ) → is_part_order r.n w ≡ true → i < length w → finish_of r (take i w) ≤ latest_finish 15
soon r w i p h = omega (arith, few r w p, late r (take i w), length-take i w)

pub late_each : (r : Round) (w : List ℕ) (k : ℕ) → is_part_order r.n w ≡ true → get_or (finish_minutes r w) k 0 ≤ latest_finish 16
late_each r w k p =
    grind (arith, few r w p, late r (take (k + 1) w), length-take (k + 1) w, cases_lt k (length w), get_or-map-range_with_len (λ i. finish_of r (take (i + 1) w)) 0 (length w) k k 0, get_or_past (finish_minutes r w) k 0, length-map-range_with_len (λ i. finish_of r (take (i + 1) w)) 0 (length w))

-- the van of a trip is the van
trip-van-from : {V : Type 0} (r : Round) (T : TallySense V) (t : Trip V) (w : List ℕ) → (fold (next_trip r T) t w).van ≡ fold (next_van r) t.van w
trip-van-from r T t [] = refl
trip-van-from r T t (j ∷ w) = trip-van-from r T (next_trip r T t j) w

pub trip-van : {V : Type 0} (r : Round) (T : TallySense V) (w : List ℕ) → (trip_after r T w).van ≡ van_after r w
trip-van r T w = trip-van-from r T (record { van = yard; cost = T.start }) w

-- so a trip has a step left, too
pub soon_on_trip : {V : Type 0} (r : Round) (T : TallySense V) (w : List ℕ) (i : ℕ) → is_part_order r.n w ≡ true → i < length w → (trip_after r T (take i w)).van.finish ≤ latest_finish 15
soon_on_trip r T w i p h = omega (arith, soon r w i p h, ap (λ (a : Van). a.finish) (trip-van r T (take i w)))
