-- Tables by door, as loops fill them.
use Rattle.std.proofs.Common.{◌≡◌, ◌≢◌, ℕ, ◌+◌, ◌<◌, ◌≤◌, ◌⊎◌, List, length, get_or, set, min, sym, subst, inl, inr, ⊎_elim, get_or-set_same, get_or-set_other, arith}
use Rattle.std.proofs.lemmas.Bool.{cases_eq, cases_lt}
use Rattle.std.proofs.lemmas.Grind.{common_steps}
use Rattle.std.proofs.lemmas.List.{length-set}
use Rattle.doors.specs.Orders.{IsDoor}
use Rattle.round.specs.declared.table.Round.{Round}
use Rattle.outlook.specs.Earliest.{IsInTime, finish_from, IsLeastInto}

-- each door below k has in the table what P says of it, and where there is no door stands 0
pub record IsFilled (n : ℕ) (P : ℕ → ℕ → Type 0) (k : ℕ) (table : List ℕ) : Type 0 where
  pub long : length table ≡ 17
  pub doors : (j : ℕ) → IsDoor n j → j < k → P j (get_or table j 0)
  pub others : (j : ℕ) → ¬ IsDoor n j → get_or table j 0 ≡ 0

pub filled_more : (n : ℕ) (P : ℕ → ℕ → Type 0) (k : ℕ) (table : List ℕ) (m : ℕ) → IsFilled n P k table → n ≤ 16 → IsDoor n k → P k m → IsFilled n P (k + 1) (set table k m)
filled_more n P k table m h few d p =
    let within : k < length table = omega (arith, h.long) in
    record {
      long = omega (arith, h.long, length-set table k m);
      doors = λ j e below. ⊎_elim
          (λ same. subst (λ (i : ℕ). P i (get_or (set table k m) i 0)) (sym same) (rw get_or-set_same p))
          (λ (other : j ≢ k). rw get_or-set_other (h.doors j e (omega arith)))
          (cases_eq j k);
      others = λ j no. grind (arith, common_steps, h.others j no);
    }

-- m is the least of what the table has for door j, and of going on to it from a door below k that is in time
pub record IsLeastSoFar (r : Round) (ends : List ℕ) (j k m : ℕ) : Type 0 where
  pub not_above : m ≤ get_or ends j 0
  pub least : (i : ℕ) → IsInTime r ends i → i < k → m ≤ finish_from r ends i j
  pub reached : (m ≡ get_or ends j 0) ⊎ ((i : ℕ) × IsInTime r ends i × (m ≡ finish_from r ends i j))

-- a door of more: taken where it is in time
pub least_more : (r : Round) (ends : List ℕ) (j k m : ℕ) → IsLeastSoFar r ends j k m → (x : ℕ)
    → (IsInTime r ends k × (x ≡ min m (finish_from r ends k j))) ⊎ ((¬ IsInTime r ends k) × (x ≡ m)) → IsLeastSoFar r ends j (k + 1) x
least_more r ends j k m h x (inl t) = record {
  not_above = omega (arith, t.1, h.not_above);
  least = λ i s below. grind (arith, t, cases_eq i k, h.least i s);
  reached = ⊎_elim (λ lt. let old : x ≡ m = omega (arith, t.1) in rw old h.reached) (λ le. inr (k, t.0, omega (arith, t.1))) (cases_lt m (finish_from r ends k j));
}
least_more r ends j k m h x (inr t) = record {
  not_above = omega (arith, t.1, h.not_above);
  least = λ i s below. grind (arith, t, cases_eq i k, h.least i s);
  reached = rw t.1 h.reached;
}

pub least_all : (r : Round) (ends : List ℕ) (j k m : ℕ) → r.n < k → IsLeastSoFar r ends j k m → IsLeastInto r ends j m
least_all r ends j k m all h = record { not_above = h.not_above; least = λ i s. h.least i s (omega (arith, s.is_door.high)); reached = h.reached }
