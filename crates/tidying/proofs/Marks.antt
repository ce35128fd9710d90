-- Which marks a table has after the targets of a node, and of the marked nodes of a layer
use Rattle.std.proofs.Common.{◌≡◌, ℕ, zero, suc, ◌+◌, ◌<◌, ◌≤◌, Bool, true, false, if◌then◌else◌, ◌⊎◌, List, [], ◌∷◌, length, get_or, take, drop, set, replicate, sym, refl, ap, ◌∙◌, inl, inr, arith}
use Rattle.std.specs.List.{Contains}
use Rattle.std.proofs.lemmas.Bool.{cases_Bool, false≢true}
use Rattle.std.proofs.lemmas.Grind.{elements, fold-append}
use Rattle.std.proofs.lemmas.List.{drop_all, drop_more, get_or-set_same, get_or_default, length-set, take_all}
use Rattle.std.proofs.lemmas.List.Elements.{Contains-append_cases, Contains-append_left, Contains-append_right}
use Rattle.std.proofs.lemmas.List.Sums.{fold_more}
use Rattle.layers.specs.declared.node.Node.{Node}
use Rattle.layers.specs.Targets.{targets}
use Rattle.tidying.specs.Tidied.{marked, sent, reached_next, first_mark}
use Rattle.tidying.proofs.Lists.{get_or-blank}
use Rattle.tidying.proofs.Targets.{length-targets, target-at}

abbrev pub On : List Bool → ℕ → Type 0
On m t = get_or m t false ≡ true

set-on : (m : List Bool) (x t : ℕ) → On (set m x true) t → On m t ⊎ (x ≡ t)
set-on m x t on = grind (arith, elements)

pub first-on : (a : ℕ) → On first_mark (suc a) → a ≡ 0
first-on a on = elim (set-on (replicate 256 false) 1 (suc a) on) [ inl o ↦ absurd (false≢true (sym (get_or-blank 256 (suc a) false) ∙ o)) | inr e ↦ omega arith ]

marked-on : (ts : List ℕ) (m : List Bool) (t : ℕ) → On (marked m ts) t → On m t ⊎ Contains ts t
unfolding marked
marked-on [] m t on = inl on
marked-on (x ∷ ts) m t on = elim (marked-on ts (set m x true) t on) [
  | inl o ↦ elim (set-on m x t o) [ inl p ↦ inl p | inr e ↦ inr (0, omega arith, e) ]
  | inr h ↦ inr (suc h.0, omega (arith, h.1), h.2)
]

marked-keeps : (ts : List ℕ) (m : List Bool) (t : ℕ) → t < length m → On m t → On (marked m ts) t
unfolding marked
marked-keeps [] m t lt on = on
marked-keeps (x ∷ ts) m t lt on = marked-keeps ts (set m x true) t (omega (arith, length-set m x true)) (grind (arith, elements))

marked-has : (ts : List ℕ) (m : List Bool) (k t : ℕ) → t < length m → k < length ts → get_or ts k t ≡ t → On (marked m ts) t
unfolding marked
marked-has [] m k t lt low e = absurd (omega arith)
marked-has (x ∷ ts) m zero t lt low e = marked-keeps ts (set m x true) t (omega (arith, length-set m x true)) (rw e (get_or-set_same m t true false lt))
marked-has (x ∷ ts) m (suc k) t lt low e = marked-has ts (set m x true) k t (omega (arith, length-set m x true)) (omega arith) e

-- the step of the loop over a node's targets, and its end
pub marked_more : {S V : Type 0} (m : List Bool) (x : Node S V) (k : ℕ) → k < 16 → marked m (take (k + 1) (targets x)) ≡ set (marked m (take k (targets x))) (get_or x.arcs.to k 0) true
unfolding marked
marked_more m x k lt = fold_more (λ m t. set m t true) m (targets x) k 0 (omega (arith, length-targets x)) ∙ ap (λ t. set (marked m (take k (targets x))) t true) (target-at x k lt)

pub marked_all : {S V : Type 0} (m : List Bool) (x : Node S V) (k : ℕ) → 16 ≤ k → marked m (take k (targets x)) ≡ marked m (targets x)
marked_all m x k all = ap (marked m) (take_all k (targets x) (omega (arith, length-targets x)))

pub after-first : (from : List Bool) (a : ℕ) → get_or (drop 1 from) a false ≡ get_or from (suc a) false
after-first [] a = refl
after-first (b ∷ from) a = refl

-- the loop's step over the nodes of a layer, and its end
pub sent_more : {S V : Type 0} (from : List Bool) (us : List (Node S V)) (m : List Bool) (a : ℕ) (x : Node S V) → a + 1 < length from → a < length us → x ≡ get_or us a x
    → marked m (sent (drop (a + 1) from) (drop a us)) ≡ marked (if get_or from (a + 1) false then marked m (targets x) else m) (sent (drop (a + 1 + 1) from) (drop (a + 1) us))
unfolding marked
sent_more from us m a x lt in' is = rw (drop_more from (a + 1) false lt, drop_more us a x in', ← is) (elim (cases_Bool (get_or from (a + 1) false)) [
  | inl e ↦ rw e (fold-append (λ m t. set m t true) m (targets x) (sent (drop (a + 1 + 1) from) (drop (a + 1) us)))
  | inr e ↦ rw e
])

pub sent_all : {S V : Type 0} (m bs : List Bool) (us : List (Node S V)) (a : ℕ) → length us ≤ a → marked m (sent bs (drop a us)) ≡ m
unfolding marked
sent_all m [] us a all = refl
sent_all m (b ∷ bs) us a all = rw (drop_all a us all)

module _ {S V : Type 0} (z : Node S V) where
  sent-from : (bs : List Bool) (us : List (Node S V)) (t : ℕ) → Contains (sent bs us) t → (a : ℕ) × On bs a × (k : ℕ) × (get_or (targets (get_or us a z)) k 0 ≡ t)
  sent-from [] us t c = absurd (omega (arith, c.1))
  sent-from (b ∷ bs) [] t c = absurd (omega (arith, c.1))
  sent-from (true ∷ bs) (u ∷ us) t c = elim (Contains-append_cases (targets u) (sent bs us) t c) [
    | inl h ↦ (0, refl, h.0, get_or_default (targets u) h.0 0 t h.1 ∙ h.2)
    | inr h ↦ (let r = sent-from bs us t h in (suc r.0, r.1, r.2, r.3))
  ]
  sent-from (false ∷ bs) (u ∷ us) t c = let r = sent-from bs us t c in (suc r.0, r.1, r.2, r.3)

  sent-has : (bs : List Bool) (us : List (Node S V)) (a k t : ℕ) → On bs a → a < length us → k < length (targets (get_or us a z)) → get_or (targets (get_or us a z)) k 0 ≡ t → Contains (sent bs us) t
  sent-has [] us a k t on lt low e = absurd (false≢true on)
  sent-has (b ∷ bs) [] a k t on lt low e = absurd (omega arith)
  sent-has (true ∷ bs) (u ∷ us) zero k t on lt low e = Contains-append_left (targets u) (sent bs us) t (k, low, get_or_default (targets u) k t 0 low ∙ e)
  sent-has (false ∷ bs) (u ∷ us) zero k t on lt low e = absurd (false≢true on)
  sent-has (true ∷ bs) (u ∷ us) (suc a) k t on lt low e = Contains-append_right (targets u) (sent bs us) t (sent-has bs us a k t on (omega arith) low e)
  sent-has (false ∷ bs) (u ∷ us) (suc a) k t on lt low e = sent-has bs us a k t on (omega arith) low e

  pub reached-on : (from : List Bool) (us : List (Node S V)) (t : ℕ) → On (reached_next from us) t → (a : ℕ) × On from (suc a) × (k : ℕ) × (get_or (targets (get_or us a z)) k 0 ≡ t)
  unfolding reached_next
  reached-on from us t on = elim (marked-on (sent (drop 1 from) us) (replicate 256 false) t on) [
    | inl o ↦ absurd (false≢true (sym (get_or-blank 256 t false) ∙ o))
    | inr c ↦ (let s = sent-from (drop 1 from) us t c in (s.0, sym (after-first from s.0) ∙ s.1, s.2, s.3))
  ]

  pub on-reached : (from : List Bool) (us : List (Node S V)) (a k t : ℕ) → t < 256 → On from (suc a) → a < length us → k < length (targets (get_or us a z)) → get_or (targets (get_or us a z)) k 0 ≡ t → On (reached_next from us) t
  unfolding reached_next
  on-reached from us a k t lt on in' low e =
      let c = sent-has (drop 1 from) us a k t (after-first from a ∙ on) in' low e in
      marked-has (sent (drop 1 from) us) (replicate 256 false) c.0 t lt c.1 c.2
