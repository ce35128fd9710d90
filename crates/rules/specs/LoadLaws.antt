-- The rule of the load is lawful.
use Rattle.std.specs.Prelude.{◌≡◌, ℕ, ◌+◌, ◌*◌, true, false, ◌||◌, ◌⊎◌, List, [], ◌∷◌, ◌++◌, length, ℤ, pos, negsuc, ◌+ℤ◌, ◌≤ℤ◌, ◌<ℤ◌, fold, int_lt, refl}
use Rattle.std.proofs.Common.{ap₂, ⊎_elim, arith, length-append, subst}
use Rattle.std.specs.Int.Signed.{≤ℤ_refl}
use Rattle.std.proofs.lemmas.Int.{ints, clamps}
use Rattle.std.proofs.lemmas.List.Sums.{fold_push}
use Rattle.std.proofs.lemmas.Bool.{cond-true, cond-false, and_parts, and_from, or_cases}
use Rattle.doors.specs.Orders.{IsPartOrder, CanFollow, is_door}
use Rattle.doors.specs.Orders as orders
use Rattle.doors.proofs.Orders.{door-is, not-door, part-ind, each_none, each-front, each_last, each_more}
use Rattle.doors.proofs.Sets.{part_length}
use Rattle.round.specs.declared.door.Door.{Door}
use Rattle.round.specs.declared.table.Round.{Round}
use Rattle.round.specs.Tables.{at}
use Rattle.rules.specs.declared.load.Interval.{Interval}
use Rattle.rules.specs.Loads.{load_of, IsWithinCap, interval, LiesBetween, clamped_load, moved_interval, may_overflow, same_int, load_sense}
use Rattle.rules.specs.Rules.{RuleLaws}

held_same : (z : ℤ) → negsuc 9998 ≤ℤ z → z ≤ℤ pos 9999 → clamped_load z ≡ z
held_same z a b = omega (arith, ints, clamps)

held_low : (y z : ℤ) → y ≤ℤ z → negsuc 9998 ≤ℤ z → clamped_load y ≤ℤ z
held_low y z h a = omega (arith, ints, clamps)

held_high : (y z : ℤ) → z ≤ℤ y → z ≤ℤ pos 9999 → z ≤ℤ clamped_load y
held_high y z h a = omega (arith, ints, clamps)

below_true : (a b : ℤ) → int_lt a b ≡ true → a <ℤ b
below_true a b e = grind (arith, ints)

below_false : (a b : ℤ) → int_lt a b ≡ false → b ≤ℤ a
below_false a b e = grind (arith, ints)

same_int-is : (a b : ℤ) → same_int a b ≡ true → a ≡ b
same_int-is a b e = grind (arith, ints)

same_int-self : (a : ℤ) → same_int a a ≡ true
same_int-self a = grind (arith, ints)

module _ (r : Round) where
  abbrev n : ℕ
  n = r.n

  abbrev load : ℕ
  load = r.load

  abbrev cap : ℕ
  cap = r.cap

  abbrev doors : List Door
  doors = r.doors

  load-last : (w : List ℕ) (j : ℕ) → load_of load doors (w ++ j ∷ []) ≡ load_of load doors w +ℤ (at doors j).change
  load-last w j = fold_push (λ l j. l +ℤ (at doors j).change) (pos load) w j

  -- a door moves the load by at most 99
  bounds : (w : List ℕ) → IsPartOrder n w → (pos 0 ≤ℤ (load_of load doors w +ℤ pos (99 * length w))) × (load_of load doors w ≤ℤ pos (999 + 99 * length w))
  bounds =
      part-ind n (λ w. (pos 0 ≤ℤ (load_of load doors w +ℤ pos (99 * length w))) × (load_of load doors w ≤ℤ pos (999 + 99 * length w)))
      (λ w j x h. let l = load-last w j in let a = r.low j in let b = r.high j in let e = length-append w (j ∷ []) in (omega (arith, ints), omega (arith, ints)))
      (omega (arith, ints), omega (arith, ints))

  -- so it never comes to ±9,999
  inside : (w : List ℕ) (j : ℕ) → CanFollow n w j → (negsuc 9998 ≤ℤ (load_of load doors w +ℤ (at doors j).change)) × ((load_of load doors w +ℤ (at doors j).change) ≤ℤ pos 9999)
  inside w j x =
      let b = bounds w x.part in
      let l = part_length n w x.part in
      let a = r.low j in
      let c = r.high j in
      (omega (arith, ints), omega (arith, ints))

  moves-door : (s : Interval) (j : ℕ) → orders.IsDoor n j → moved_interval n doors s j ≡ interval (clamped_load (s.low +ℤ (at doors j).change)) (clamped_load (s.high +ℤ (at doors j).change))
  moves-door s j d = cond-true (is_door n j) _ _ (door-is n j d)

  bars-door : (s : Interval) (j : ℕ) → orders.IsDoor n j → may_overflow n cap doors s j ≡ (int_lt (pos cap) (s.low +ℤ (at doors j).change) || int_lt (s.high +ℤ (at doors j).change) (pos 0))
  bars-door s j d = cond-true (is_door n j) _ _ (door-is n j d)

  -- the state of a part order is its load, twice
  state-is : (w : List ℕ) → IsPartOrder n w → fold (moved_interval n doors) (interval (pos load) (pos load)) w ≡ interval (load_of load doors w) (load_of load doors w)
  state-is =
      part-ind n (λ w. fold (moved_interval n doors) (interval (pos load) (pos load)) w ≡ interval (load_of load doors w) (load_of load doors w))
      (λ w j x ih.
      let i = inside w j x in
      let z = load_of load doors w in
      let same = held_same (z +ℤ (at doors j).change) i.0 i.1 in
      rw (fold_push (moved_interval n doors) (interval (pos load) (pos load)) w j, ih, moves-door (interval z z) j x.door, same, load-last w j))
      refl

  -- a load in the interval, moved by a door, is in the interval moved by it
  moved : (s : Interval) (w : List ℕ) (j : ℕ) → CanFollow n w j → LiesBetween load doors s w → LiesBetween load doors (moved_interval n doors s j) (w ++ j ∷ [])
  moved s w j x h =
      let i = inside w j x in
      let l = load-last w j in
      rw (moves-door s j x.door) (omega (arith, ints, clamps), omega (arith, ints, clamps))

  pub load_lawful : RuleLaws n (load_sense n load cap doors) (IsWithinCap load cap doors) (LiesBetween load doors)
  load_lawful = record {
    keeps_none = each_none _;
    keeps_front = λ w v p h. each-front _ w v h;
    start_stands = (≤ℤ_refl (pos load), ≤ℤ_refl (pos load));
    step_stands = moved;
    cover_left = λ s t w p h. (omega (arith, ints, clamps), omega (arith, ints, clamps));
    cover_right = λ s t w p h. (omega (arith, ints, clamps), omega (arith, ints, clamps));
    cover_same = λ s. ap₂ interval (omega (arith, ints, clamps)) (omega (arith, ints, clamps));
    bars_breaks = λ s w j x h b k.
        let l = load-last w j in
        let within = each_last _ w j k in
        let either : (int_lt (pos cap) (s.low +ℤ (at doors j).change) ≡ true) ⊎ (int_lt (s.high +ℤ (at doors j).change) (pos 0) ≡ true) = or_cases _ _ (rw (bars-door s j x.door) at b) in
        ⊎_elim (λ e. omega (arith, ints, below_true (pos cap) (s.low +ℤ (at doors j).change) e)) (λ e. omega (arith, ints, below_true (s.high +ℤ (at doors j).change) (pos 0) e)) either;
    clear_keeps = λ w j x k b.
        let l = load-last w j in
        let z = load_of load doors w in
        let e = bars-door (interval z z) j x.door in
        let clear : may_overflow n cap doors (interval z z) j ≡ false = rw (state-is w x.part) at b in
        each_more _ w j k (grind (arith, ints), grind (arith, ints));
    same_is = λ s t e. let p = and_parts (same_int s.low t.low) _ e in ap₂ interval (same_int-is _ _ p.0) (same_int-is _ _ p.1);
    same_self = λ s. and_from _ _ (same_int-self s.low) (same_int-self s.high);
    outside_step = λ s j h. cond-false (is_door n j) _ _ (not-door n j h);
    outside_bars = λ s j h. cond-false (is_door n j) _ _ (not-door n j h);
  }

  -- so it is in rounds of m doors, where the round is one
  pub load_lawful_for : (m : ℕ) → n ≡ m
      → RuleLaws m (load_sense n load cap doors) (IsWithinCap load cap doors) (LiesBetween load doors)
  load_lawful_for m e =
      subst (λ (m : ℕ). RuleLaws m (load_sense n load cap doors) (IsWithinCap load cap doors) (LiesBetween load doors)) e load_lawful
