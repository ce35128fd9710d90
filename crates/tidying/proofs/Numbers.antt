-- The numbers that the nodes with arcs get
use Rattle.std.proofs.Common.{◌≡◌, ℕ, zero, suc, ◌+◌, ◌<◌, ◌≤◌, true, false, if◌then◌else◌, List, [], ◌∷◌, map, length, get_or, drop, set, replicate, ap, ◌∙◌, sym, inl, inr, refl, arith}
use Rattle.std.proofs.lemmas.Bool.{cases_Bool, cond_both, cond-true, cond-false}
use Rattle.std.proofs.lemmas.List.{drop_all, drop_more, get_or-set_other, length-replicate, length-set}
use Rattle.std.proofs.lemmas.Grind.{get_or-set_at}
use Rattle.layers.specs.declared.node.Node.{Node}
use Rattle.layers.specs.Tidy.{rank, renumber}
use Rattle.tidying.specs.Tidied.{lively, numbered, numbering}
use Rattle.tidying.proofs.Lists.{get_or-blank}

module _ {S V : Type 0} where
  numbered-before : (us : List (Node S V)) (new : List ℕ) (count i t : ℕ) → t ≤ i → get_or (numbered new count i us) t 0 ≡ get_or new t 0
  unfolding numbered
  numbered-before [] new count i t le = refl
  numbered-before (u ∷ us) new count i t le = cond_both (lively u) (numbered (set new (i + 1) (count + 1)) (count + 1) (i + 1) us) (numbered new count (i + 1) us) (λ ys. get_or ys t 0 ≡ get_or new t 0)
      (λ e. numbered-before us (set new (i + 1) (count + 1)) (count + 1) (i + 1) t (omega arith) ∙ get_or-set_other new (i + 1) t (count + 1) 0 (λ e. absurd (omega arith)))
      (λ e. numbered-before us new count (i + 1) t (omega arith))

  numbered-at : (us : List (Node S V)) (new : List ℕ) (count i a m : ℕ) → i + suc a ≡ m → i + length us < length new → ((t : ℕ) → i < t → get_or new t 0 ≡ 0)
      → get_or (numbered new count i us) m 0 ≡ (if get_or (map lively us) a false then count + suc (rank (map lively us) a) else 0)
  unfolding numbered rank
  numbered-at [] new count i a m at fits none = none m (omega arith)
  numbered-at (u ∷ us) new count i zero m at fits none = elim (cases_Bool (lively u)) [
    | inl e ↦ rw e (numbered-before us (set new (i + 1) (count + 1)) (count + 1) (i + 1) m (omega arith) ∙ get_or-set_at new (i + 1) m (count + 1) 0 (omega arith) (omega arith))
    | inr e ↦ rw e (numbered-before us new count (i + 1) m (omega arith) ∙ none m (omega arith))
  ]
  numbered-at (u ∷ us) new count i (suc a) m at fits none = elim (cases_Bool (lively u)) [
    | inl e ↦ rw e
        (numbered-at us (set new (i + 1) (count + 1)) (count + 1) (i + 1) a m (omega arith) (omega (arith, length-set new (i + 1) (count + 1)))
        (λ t lt. get_or-set_other new (i + 1) t (count + 1) 0 (λ e. absurd (omega arith)) ∙ none t (omega arith))
        ∙ ap (λ k. if get_or (map lively us) a false then k else 0) (omega arith))
    | inr e ↦ rw e (numbered-at us new count (i + 1) a m (omega arith) (omega arith) (λ t lt. none t (omega arith)))
  ]

  pub number-none : (us : List (Node S V)) → get_or (numbering us) 0 0 ≡ 0
  unfolding numbering
  number-none us = numbered-before us (replicate 256 0) 0 0 0 (omega arith)

  pub number-at : (us : List (Node S V)) (a : ℕ) → length us < 256 → get_or (numbering us) (suc a) 0 ≡ renumber (map lively us) a
  unfolding numbering renumber
  number-at us a fits =
      numbered-at us (replicate 256 0) 0 0 a (suc a) (omega arith) (omega (arith, length-replicate {A = ℕ} 256 0)) (λ t lt. get_or-blank {X = ℕ} 256 t 0)
      ∙ ap (λ k. if get_or (map lively us) a false then k else 0) (omega arith)

  -- the loop's step
  pub numbered_yes : (us : List (Node S V)) (new : List ℕ) (count a : ℕ) (x : Node S V) → a < length us → x ≡ get_or us a x → lively x ≡ true
      → numbered (set new (a + 1) (count + 1)) (count + 1) (a + 1) (drop (a + 1) us) ≡ numbered new count a (drop a us)
  unfolding numbered
  numbered_yes us new count a x lt is live = rw (drop_more us a x lt, ← is) (sym (cond-true (lively x) _ _ live))

  pub numbered_no : (us : List (Node S V)) (new : List ℕ) (count a : ℕ) (x : Node S V) → a < length us → x ≡ get_or us a x → lively x ≡ false → numbered new count (a + 1) (drop (a + 1) us) ≡ numbered new count a (drop a us)
  unfolding numbered
  numbered_no us new count a x lt is dead = rw (drop_more us a x lt, ← is) (sym (cond-false (lively x) _ _ dead))

  pub numbered_all : (us : List (Node S V)) (new : List ℕ) (count a : ℕ) → length us ≤ a → numbered new count a (drop a us) ≡ new
  unfolding numbered
  numbered_all us new count a all = rw (drop_all a us all)
