-- One arc of a filtered layer.
use Rattle.std.proofs.Common.{◌≡◌, ℕ, zero, suc, ◌+◌, ◌-◌, ◌<◌, ◌≤◌, Bool, true, cond, not, List, [], ◌∷◌, map, length, get_or, set, Some, None, Option, ◌⊎◌, inl, inr, eqb, ltb, sym, refl, ap, ◌∙◌, zero-add, arith}
use Rattle.std.specs.List.{range_with_len, filter}
use Rattle.std.proofs.lemmas.Bool.{both_ways, cases_eq, cases_lt, cond_both, lt-ltb, ne_eqb, not_from_false}
use Rattle.std.proofs.lemmas.Bool.Decides.{nat_tests}
use Rattle.std.proofs.lemmas.List.{get_or-map, get_or-set_same, get_or-set_other}
use Rattle.std.proofs.lemmas.List.FromFn.{fill_by_all, get_or-range_with_len}
use Rattle.labels.specs.Passes.{doors_out}
use Rattle.layers.specs.declared.node.Node.{Node}
use Rattle.layers.specs.declared.node.Down.{Down}
use Rattle.layers.specs.declared.node.Up.{Up}
use Rattle.layers.specs.Records.{ups_in}
use Rattle.layers.specs.Targets.{at_door}
use Rattle.filter.specs.Kept.{kept_to}

module _ {S V : Type 0} (goes : ℕ → ℕ → ℕ → Option (Down S V) → Option Up → Bool) (i h : ℕ) (vs : List (Node S V)) (u : Node S V) (j : ℕ) where
  pub left_none : (t : ℕ) → t ≡ 0 → 0 ≡ at_door (kept_to goes i h vs u) j t
  left_none t e = ap (at_door (kept_to goes i h vs u) j) (sym e)

  pub left_past : (t : ℕ) → length vs < t → 0 ≡ at_door (kept_to goes i h vs u) j t
  unfolding kept_to
  left_past zero lt = refl
  left_past (suc b) lt = grind (arith, nat_tests)

  pub left_here : (t : ℕ) (gone : Bool) (x : Node S V) → 1 ≤ t → t ≤ length vs → gone ≡ goes i h j (Some u.label.down) (Some (get_or vs (t - 1) x).label.up) → cond gone 0 t ≡ at_door (kept_to goes i h vs u) j t
  unfolding kept_to
  left_here zero gone x some fits is = absurd (omega arith)
  left_here (suc b) gone x some fits is =
      let here : suc b - 1 ≡ b = omega arith in
      rw (lt-ltb b (length vs) (omega arith))
      (ap (λ g. cond g 0 (suc b)) (is ∙ ap (λ k. goes i h j (Some u.label.down) (Some (get_or vs k x).label.up)) here)
      ∙ ap (λ o. cond (goes i h j (Some u.label.down) o) 0 (suc b)) (sym (get_or-map (λ (y : Node S V). Some y.label.up) vs b x None (omega arith))))

  -- an arc goes, or stays as it is
  pub left-or-none : (t : ℕ) → (at_door (kept_to goes i h vs u) j t ≡ 0) ⊎ (at_door (kept_to goes i h vs u) j t ≡ t)
  unfolding kept_to
  left-or-none zero = inl refl
  left-or-none (suc b) = cond_both (ltb b (length vs)) _ 0 (λ s. (s ≡ 0) ⊎ (s ≡ suc b)) (λ e. cond_both (goes i h j (Some u.label.down) (get_or (ups_in vs) b None)) 0 (suc b) (λ s. (s ≡ 0) ⊎ (s ≡ suc b)) (λ g. inl refl) (λ g. inr refl)) (λ e. inl refl)

-- ---- a loop that writes f at the doors ds, one by one
-- the first i are written: these doors are right, and where f gives 0
abbrev pub Written : (ℕ → ℕ) → List ℕ → List ℕ → ℕ → Type 0
Written f ds ts i = (m : ℕ) → (f m ≡ 0) ⊎ ((a : ℕ) × (a < i) × (get_or ds a 0 ≡ m)) → get_or ts m 0 ≡ f m

pub written_more : (f : ℕ → ℕ) (ds ts : List ℕ) (i k : ℕ) → k ≡ get_or ds i 0 → k < length ts → Written f ds ts i → Written f ds (set ts k (f k)) (i + 1)
written_more f ds ts i k is lt h m o = elim (cases_eq m k) [
  | inl e ↦ rw e (get_or-set_same ts k (f k) 0 lt)
  | inr ne ↦ get_or-set_other ts k m (f k) 0 ne ∙ h m (elim o [
    | inl none ↦ inl none
    | inr s ↦ elim (cases_lt s.0 i) [
      | inl before ↦ inr (s.0, before, s.2)
      | inr past ↦ absurd (let last : s.0 ≡ i = omega (arith, s.1) in ne (sym s.2 ∙ ap (λ (a : ℕ). get_or ds a 0) last ∙ sym is))
    ]
  ])
]

listed : (p : ℕ → Bool) (ks : List ℕ) (m i : ℕ) → p m ≡ true → i < length ks → get_or ks i 0 ≡ m → (a : ℕ) × (a < length (filter p ks)) × (get_or (filter p ks) a 0 ≡ m)
listed p [] m i q lt e = absurd (omega arith)
listed p (k ∷ ks) m zero q lt e = cond_both (p k) (k ∷ filter p ks) (filter p ks) (λ ys. (a : ℕ) × (a < length ys) × (get_or ys a 0 ≡ m)) (λ on. (0, omega arith, e)) (λ off. absurd (both_ways (p k) off (ap p e ∙ q)))
listed p (k ∷ ks) m (suc i) q lt e =
    let r = listed p ks m i q (omega arith) e in
    cond_both (p k) (k ∷ filter p ks) (filter p ks) (λ ys. (a : ℕ) × (a < length ys) × (get_or ys a 0 ≡ m)) (λ on. (suc r.0, omega (arith, r.1), r.2)) (λ off. r)

-- when all doors that have an arc are written, all is
pub written_all : (f : ℕ → ℕ) (to ds ts : List ℕ) (i : ℕ) → ds ≡ doors_out to → length ds ≤ i → length ts ≡ 16 → ((k : ℕ) → get_or to k 0 ≡ 0 → f k ≡ 0) → Written f ds ts i → ts ≡ map f (range_with_len 0 16)
written_all f to ds ts i is all long none h = fill_by_all f ts 16 0 long (λ k lt. h k (elim (cases_eq (get_or to k 0) 0) [
  | inl e ↦ inl (none k e)
  | inr ne ↦ inr (rw is
      (let r = listed (λ k. not (eqb (get_or to k 0) 0)) (range_with_len 0 16) k k (not_from_false _ (ne_eqb _ 0 ne)) lt (get_or-range_with_len 0 16 k 0 lt ∙ zero-add k) in (r.0, omega (arith, r.1, ap length is), r.2)))
]))
