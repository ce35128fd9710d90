-- The load after a part order goes by its set of doors alone.
use Rattle.std.proofs.Common.{◌≡◌, ◌≢◌, ℕ, zero, suc, ◌+◌, ◌^◌, ◌<◌, ◌≤◌, Bool, true, false, List, sym, refl, ap, ◌∙◌, ⊎_elim, add-one, arith}
use Rattle.std.specs.Prelude.{ℤ, pos, ◌+ℤ◌, if◌then◌else◌, ◌==◌, bit_or}
use Rattle.std.proofs.lemmas.Int.{ints}
use Rattle.std.proofs.lemmas.Bool.{cases_eq}
use Rattle.std.proofs.lemmas.Bool.Decides.{nat_tests}
use Rattle.std.proofs.lemmas.List.Sums.{fold_push}
use Rattle.std.proofs.lemmas.Nat.Bits.{bit_at_or, bit_at-pow_other}
use Rattle.doors.specs.Orders.{IsPartOrder}
use Rattle.doors.specs.Sets.{Has, has, set_of}
use Rattle.doors.proofs.Orders.{part-ind}
use Rattle.doors.proofs.Sets.{has-none, true-has, has-added, has-set}
use Rattle.round.specs.declared.door.Door.{Door}
use Rattle.round.specs.Tables.{at}
use Rattle.rules.specs.Loads.{load_of}
use Rattle.outlook.proofs.DoorSets.{set_or-last}

other-has : (m j i : ℕ) → i ≢ j → has (bit_or m (2 ^ j)) i ≡ has m i
other-has m j i h =
    ap (λ (b : ℕ). b == 1) (omega (arith, bit_at_or m (2 ^ j) i, bit_at-pow_other j i h))

not-has : (m j : ℕ) → ¬ Has m j → has m j ≡ false
not-has m j h = grind (arith, nat_tests)

module _ (load : ℕ) (doors : List Door) where
  -- the load after those doors below k that are in the set m
  abbrev pub load_upto : ℕ → ℕ → ℤ
  load_upto m zero = pos load
  load_upto m (suc k) = if has m k then load_upto m k +ℤ (at doors k).change else load_upto m k

  pub upto_with : (m k : ℕ) → has m k ≡ true → load_upto m (k + 1) ≡ (load_upto m k +ℤ (at doors k).change)
  upto_with m k e = rw (add-one, e) refl

  pub upto_without : (m k : ℕ) → has m k ≡ false → load_upto m (k + 1) ≡ load_upto m k
  upto_without m k e = rw (add-one, e) refl

  upto-none : (k : ℕ) → load_upto 0 k ≡ pos load
  upto-none zero = refl
  upto-none (suc k) = let none = has-none k in grind (arith, nat_tests, upto-none k)

  -- a door more in the set
  upto-before : (m j k : ℕ) → k ≤ j → load_upto (bit_or m (2 ^ j)) k ≡ load_upto m k
  upto-before m j zero l = refl
  upto-before m j (suc k) l = rw (other-has m j k (omega arith), upto-before m j k (omega arith)) refl

  moved : (b : Bool) (x y z : ℤ) → (if b then (x +ℤ y) +ℤ z else x +ℤ y) ≡ ((if b then x +ℤ z else x) +ℤ y)
  moved true x y z = omega (arith, ints)
  moved false x y z = refl

  upto-after : (m j k : ℕ) → ¬ Has m j → j < k → load_upto (bit_or m (2 ^ j)) k ≡ (load_upto m k +ℤ (at doors j).change)
  upto-after m j zero new l = absurd (omega arith)
  upto-after m j (suc k) new l =
      ⊎_elim
      (λ e.
      let here : has (bit_or m (2 ^ j)) k ≡ true = rw e (true-has (bit_or m (2 ^ j)) j (has-added m j)) in
      let gone : has m k ≡ false = rw e (not-has m j new) in
      let same : load_upto (bit_or m (2 ^ j)) k ≡ load_upto m k = upto-before m j k (omega arith) in
      rw (here, gone, same) (ap (λ (i : ℕ). load_upto m k +ℤ (at doors i).change) e))
      (λ n. rw (other-has m j k n, upto-after m j k new (omega arith)) (moved (has m k) (load_upto m k) (at doors j).change (at doors k).change))
      (cases_eq k j)

  pub load-upto : (n k : ℕ) → n < k → (w : List ℕ) → IsPartOrder n w → load_of load doors w ≡ load_upto (set_of w) k
  load-upto n k above =
      part-ind n (λ w. load_of load doors w ≡ load_upto (set_of w) k)
      (λ w j x e. fold_push (λ l j. l +ℤ (at doors j).change) (pos load) w j
      ∙ ap (λ (l : ℤ). l +ℤ (at doors j).change) e
      ∙ sym (upto-after (set_of w) j k (λ h. x.new (has-set w j h)) (omega arith))
      ∙ ap (λ (m : ℕ). load_upto m k) (sym (set_or-last w j)))
      (sym (upto-none k))

  pub same-load : (n : ℕ) (v w : List ℕ) → IsPartOrder n v → IsPartOrder n w → set_of v ≡ set_of w → load_of load doors v ≡ load_of load doors w
  same-load n v w p q e =
      load-upto n (suc n) (omega arith) v p ∙ ap (λ (m : ℕ). load_upto m (suc n)) e ∙ sym (load-upto n (suc n) (omega arith) w q)
