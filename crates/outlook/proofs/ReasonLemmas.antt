-- Reasons for which no order is allowed, door by door.
use Rattle.std.proofs.Common.{◌≡◌, ℕ, zero, suc, ◌+◌, ◌-◌, ◌<◌, ◌≤◌, Bool, true, false, not, ◌||◌, ◌↔◌, ⊎_elim, List, slice_index, get_or, replicate, refl, sym, ap, ◌∙◌, inl, inr, subst, arith}
use Rattle.std.specs.Prelude.{IsTrue}
use Rattle.std.specs.List.{list_any, range_with_len}
use Rattle.std.proofs.lemmas.Bool.{both_ways, cases_lt, or_cases, or_left, or_right, not-true, not_from_false, lt-ltb, ltb-true, false_from_ne_true}
use Rattle.std.proofs.lemmas.List.{get_or-replicate, get_or_past}
use Rattle.std.proofs.lemmas.List.Folds.{list_any_at}
use Rattle.std.proofs.lemmas.List.FromFn.{length-range_with_len, get_or-range_with_len}
use Rattle.doors.specs.Orders.{IsDoor}
use Rattle.doors.specs.Sets.{Has}
use Rattle.doors.proofs.Sets.{has-none, has-true, true-has}
use Rattle.round.specs.declared.table.Round.{Round}
use Rattle.round.specs.Clock.{door}
use Rattle.rules.specs.Pairs.{Pair}
use Rattle.allowed.specs.Orders.{IsAllowedOrder}
use Rattle.outlook.specs.declared.outlook.Outlook.{Outlook}
use Rattle.outlook.specs.declared.outlook.LoadOutlook.{LoadOutlook}
use Rattle.outlook.specs.declared.outlook.LoadOutlook.TheVariants.{Never, NotWithPairs, Kept}
use Rattle.outlook.specs.Chains.{IsChained}
use Rattle.outlook.specs.Earliest.{IsEarliest}
use Rattle.outlook.specs.LoadOrders.{KeepsLoad}
use Rattle.outlook.specs.LoadMeanings.{LoadMeans}
use Rattle.outlook.specs.Reasons.{RulesOutAll, is_late, has_no_place, rules_out_all, is_kept}
use Rattle.outlook.proofs.ChainLemmas.{circles}
use Rattle.outlook.proofs.Ways.{none-in-time}

-- a test that some of k numbers from a on passes
any-from : (p : ℕ → Bool) (a k : ℕ) → list_any p (range_with_len a k) ≡ true → (j : ℕ) × (a ≤ j) × (j < a + k) × (p j ≡ true)
any-from p a zero e = absurd (both_ways _ refl e)
any-from p a (suc k) e =
    ⊎_elim
    (λ here. (a, omega arith, omega arith, here))
    (λ rest. let h = any-from p (a + 1) k rest in (h.0, omega (arith, h.1), omega (arith, h.2), h.3))
    (or_cases (p a) _ e)

module _ (p : ℕ → Bool) (n : ℕ) where
  pub some_door : (j : ℕ) → IsDoor n j → p j ≡ true → list_any p (range_with_len 1 n) ≡ true
  some_door j d e =
      let at : get_or (range_with_len 1 n) (j - 1) 0 ≡ j = get_or-range_with_len 1 n (j - 1) 0 (omega (arith, d.low, d.high)) ∙ omega (arith, d.low) in
      list_any_at p (range_with_len 1 n) (j - 1) 0 (omega (arith, length-range_with_len 1 n, d.low, d.high)) (ap p at ∙ e)

  pub door_of : list_any p (range_with_len 1 n) ≡ true → (j : ℕ) × IsDoor n j × (p j ≡ true)
  door_of e = let h = any-from p 1 n e in (h.0, record { low = h.1; high = omega (arith, h.2) }, h.3)

  pub no_door : ((j : ℕ) → IsDoor n j → p j ≡ false) → list_any p (range_with_len 1 n) ≡ false
  no_door h = false_from_ne_true _ (λ e. let d = door_of e in both_ways _ (h d.0 d.1) d.2)

-- the test says what the statement says
pub reasons : (o : Outlook) → (rules_out_all o ≡ true) ↔ RulesOutAll o
reasons o = (
  λ e. ⊎_elim
      (λ h. let d = door_of (has_no_place o) o.round.now.n h in inl (d.0, d.1, ⊎_elim (λ l. inl (ltb-true _ _ l)) (λ i. inr (has-true _ _ i)) (or_cases (is_late o d.0) _ d.2)))
      (λ h. inr (not-true _ h))
      (or_cases (list_any (has_no_place o) (range_with_len 1 o.round.now.n)) _ e),
  λ h. ⊎_elim
      (λ d. or_left _ _ (some_door (has_no_place o) o.round.now.n d.0 d.1 (⊎_elim (λ l. or_left _ _ (lt-ltb _ _ l)) (λ i. or_right (is_late o d.0) _ (true-has _ _ i)) d.2)))
      (λ none. or_right (list_any (has_no_place o) (range_with_len 1 o.round.now.n)) _ (not_from_false _ none))
      h,
)

pub reason_at : (o : Outlook) (j : ℕ) → IsDoor o.round.now.n j → has_no_place o j ≡ true → true ≡ rules_out_all o
reason_at o j d e = sym (or_left _ _ (some_door (has_no_place o) o.round.now.n j d e))

pub reason_last : (o : Outlook) → ((j : ℕ) → IsDoor o.round.now.n j → has_no_place o j ≡ false) → not (is_kept o.load) ≡ rules_out_all o
reason_last o h = ap (λ b. b || not (is_kept o.load)) (sym (no_door (has_no_place o) o.round.now.n h))

-- ---- no order is allowed

-- a load that no order keeps, or none that keeps the pairs
load_rules_out : (r : Round) (l : LoadOutlook) → LoadMeans r l → is_kept l ≡ false → (w : List ℕ) → ¬ IsAllowedOrder r w
load_rules_out r Never h e w a = h w (record { full = a.full; within = a.within })
load_rules_out r NotWithPairs h e w a = h.1 w (record { full = a.full; ordered = a.ordered; within = a.within })
load_rules_out r (Kept v) h e w a = both_ways _ e refl

-- any of these reasons
pub all_ruled_out : (r : Round) (o : Outlook) → o.round.now ≡ r
    → ((j : ℕ) → IsDoor r.n j → IsEarliest r j (slice_index o.earliest j))
    → ((i j : ℕ) → Has (slice_index o.ahead j) i ↔ IsChained r.ahead i j)
    → LoadMeans r o.load
    → IsTrue (rules_out_all o) → (w : List ℕ) → ¬ IsAllowedOrder r w
all_ruled_out r o e earliest ahead load told w a =
    ⊎_elim
    (λ d.
    let inside : IsDoor r.n d.0 = subst (λ (s : Round). IsDoor s.n d.0) e d.1 in
    ⊎_elim
    (λ late. none-in-time r d.0 (slice_index o.earliest d.0) inside (earliest d.0 inside) (subst (λ (s : Round). (door s d.0).closes < slice_index o.earliest d.0) e late) w a)
    (λ circle. circles r d.0 inside ((ahead d.0 d.0).0 circle) w a.full a.ordered)
    d.2)
    (λ none. load_rules_out r o.load load none w a)
    ((reasons o).0 told)

-- ---- orders that keep the load alone

no-pair : (i j : ℕ) → ¬ Pair (replicate 17 0) i j
no-pair i j p =
    has-none i (subst (λ (s : ℕ). Has s i) (⊎_elim (λ h. get_or-replicate 17 j 0 0 h) (λ h. get_or_past (replicate 17 0) j 0 h) (cases_lt j 17)) p)

-- no order keeps it, since none keeps it where there are no pairs
pub never : (r : Round) → ((w : List ℕ) → ¬ KeepsLoad r (replicate 17 0) w) → LoadMeans r Never
never r h w k = h w (record { full = k.full; ordered = λ u j v e i p. absurd (no-pair i j p); within = k.within })

-- the order v keeps it, where there are no pairs
pub not_with_pairs : (r : Round) → ((w : List ℕ) → ¬ KeepsLoad r r.ahead w) → (v : List ℕ) → KeepsLoad r (replicate 17 0) v → LoadMeans r NotWithPairs
not_with_pairs r h v k = ((v, record { full = k.full; within = k.within }), h)
