-- Chains of pairs.
use Rattle.std.proofs.Common.{◌≡◌, ℕ, ◌+◌, ◌<◌, ◌≤◌, ◌⊎◌, ⊎_elim, List, [], ◌∷◌, ◌++◌, length, append_assoc, slice_index, bit_or, inr, subst, sym, refl, ap, ◌∙◌, arith}
use Rattle.std.proofs.lemmas.Bool.{cases_lt}
use Rattle.std.proofs.lemmas.List.{get_or_past}
use Rattle.std.proofs.lemmas.Nat.{le_or_l}
use Rattle.doors.specs.Orders.{StandsIn, IsDoor, AtEach}
use Rattle.doors.specs.Sets.{Has}
use Rattle.doors.proofs.Orders.{in_left, part-next}
use Rattle.doors.proofs.Sets.{has-none, has_left, has_right, has_either}
use Rattle.round.specs.declared.table.Round.{Round}
use Rattle.rules.specs.Pairs.{Pair, IsOrdered}
use Rattle.allowed.specs.Orders.{IsFullOrder}
use Rattle.outlook.specs.Chains.{Leads, IsChained}
use Rattle.outlook.proofs.Splits.{split_at, all_there}

-- what stands past the end of a table is the empty set
pub pair_inside : (ahead : List ℕ) (i k : ℕ) → Pair ahead i k → k < length ahead
pair_inside ahead i k p = ⊎_elim (λ h. h) (λ h. absurd (has-none i (subst (λ (s : ℕ). Has s i) (get_or_past ahead k 0 h) p))) (cases_lt k (length ahead))

-- a pair ahead of a chain
pub chained-more : (ahead : List ℕ) (i k j : ℕ) → Pair ahead i k → IsChained ahead k j → IsChained ahead i j
chained-more ahead i k j p h = (k ∷ h.0, (p, h.1))

-- a set that has the doors with a pair to j, and with each door those with a pair to it, has each door with a chain to j
pub closed_has : (ahead : List ℕ) (set j : ℕ) → ((i : ℕ) → Pair ahead i j → Has set i) → ((i k : ℕ) → Has set k → Pair ahead i k → Has set i)
    → (i : ℕ) (u : List ℕ) → Leads ahead i u j → Has set i
closed_has ahead set j first next i [] h = first i h
closed_has ahead set j first next i (k ∷ u) h = next i k (closed_has ahead set j first next k u h.1) h.0

-- wider has the set and all with a pair to one of its doors below n; any other that it has has a pair to one of the set's doors
pub record Widens (ahead : List ℕ) (set n wider : ℕ) : Type 0 where
  pub larger : set ≤ wider
  pub kept : (i : ℕ) → Has set i → Has wider i
  pub pairs : (i k : ℕ) → k < n → Has set k → Pair ahead i k → Has wider i
  pub only : (i : ℕ) → Has wider i → Has set i ⊎ ((k : ℕ) × Has set k × Pair ahead i k)

-- door n is not in the set
pub widens_none : (ahead : List ℕ) (set n wider : ℕ) → ¬ Has set n → Widens ahead set n wider → Widens ahead set (n + 1) wider
widens_none ahead set n wider h w = record {
  larger = w.larger;
  kept = w.kept;
  pairs = λ i k p. grind (arith, w.pairs i k, h);
  only = w.only;
}

-- door n is in the set
pub widens_more : (ahead : List ℕ) (set n wider : ℕ) → Has set n → Widens ahead set n wider
    → Widens ahead set (n + 1) (bit_or wider (slice_index ahead n))
widens_more ahead set n wider h w =
    let more = slice_index ahead n in
    record {
      larger = omega (arith, w.larger, le_or_l wider more);
      kept = λ i p. has_left wider more i (w.kept i p);
      pairs = λ i k p. grind (arith, w.pairs i k, has_left wider more i, has_right wider more i);
      only = λ i p. ⊎_elim (w.only i) (λ q. inr (n, h, q)) (has_either wider more i p);
    }

-- a chain ends within the table
pub leads_inside : (ahead : List ℕ) (i : ℕ) (u : List ℕ) (j : ℕ) → Leads ahead i u j → j < length ahead
leads_inside ahead i [] j h = pair_inside ahead i j h
leads_inside ahead i (k ∷ u) j h = leads_inside ahead k u j h.1

-- ---- chains in orders

-- where the pairs are kept, the first door of a chain stands ahead of the last
pub chains : (ahead w : List ℕ) → IsOrdered ahead w → (i : ℕ) (u : List ℕ) (j : ℕ) → Leads ahead i u j → AtEach (λ t k. k ≡ j → StandsIn i t) w
chains ahead w o i [] j h t k v e same = o t k v e i (subst (λ (m : ℕ). Pair ahead i m) (sym same) h)
chains ahead w o i (k ∷ u) j h t m v e same =
    let s = split_at k t (chains ahead w o k u j h.1 t m v e same) in
    let here : w ≡ s.u ++ k ∷ (s.v ++ m ∷ v) = e ∙ ap (λ (x : List ℕ). x ++ m ∷ v) s.split ∙ append_assoc s.u (k ∷ s.v) (m ∷ v) in
    rw s.split (in_left s.u (k ∷ s.v) i (o s.u k (s.v ++ m ∷ v) here i h.0))

-- no door stands ahead of itself in an order of all doors
pub circles : (r : Round) (j : ℕ) → IsDoor r.n j → IsChained r.ahead j j → (w : List ℕ) → IsFullOrder r w → ¬ IsOrdered r.ahead w
circles r j d h w f o =
    let s = split_at j w (all_there r.n w j f.part f.whole d) in
    (part-next r.n s.u j s.v (rw (← s.split) f.part)).new (chains r.ahead w o j h.0 j h.1 s.u j s.v s.split refl)
