-- What is listed, from one order to the next.
use Rattle.std.proofs.Common.{◌≡◌, ℕ, ◌≤◌, ◌<◌, ◌⊎◌, List, [], ◌∷◌, length, get_or, All, AllPairs, Contains, refl, inl, inr, ⊎_elim, arith}
use Rattle.std.specs.List.{range_with_len}
use Rattle.std.specs.List.Sorted.{IsPermutation}
use Rattle.std.proofs.lemmas.List.Elements.{All-nil, All-push, All-weaker, Contains-append_left, Contains-push}
use Rattle.std.proofs.lemmas.List.FromFn.{get_or-range_with_len, length-range_with_len}
use Rattle.std.proofs.lemmas.List.Sorted.{IsPermutation-sym, IsPermutation-trans}
use Rattle.std.proofs.lemmas.List.Quantifiers.{all_pairs_push}
use Rattle.round.specs.declared.table.Round.{Round}
use Rattle.orders.specs.Allowed.{IsAllowed}
use Rattle.lister.specs.Listed.{LooksAt}
use Rattle.lister.specs.Orders.{ComesBefore, IsNext, IsLast}
use Rattle.lister.proofs.Dictionary.{upto-or-after, before-trans, none_before}
use Rattle.lister.proofs.Doors.{reordered}

-- os are the allowed orders that stand Here
pub record Listing (r : Round) (Keeps : List ℕ → Type 0) (Here : List ℕ → Type 0) (os : List (List ℕ)) : Type 0 where
  pub whole : (w : List ℕ) → IsAllowed r Keeps w → Here w → Contains os w
  pub ascending : AllPairs ComesBefore os
  pub only : All Here os

-- w comes before v, or is v
abbrev pub UpTo : List ℕ → List ℕ → Type 0
UpTo v w = ComesBefore w v ⊎ (w ≡ v)

module _ (r : Round) (Keeps : List ℕ → Type 0) where
  -- os are those that come before v
  abbrev pub SoFar : List ℕ → List (List ℕ) → Type 0
  SoFar v os = Listing r Keeps (λ w. ComesBefore w v) os

  pub looked : (v : List ℕ) (os us : List (List ℕ)) → SoFar v os → LooksAt r Keeps v os us → Listing r Keeps (UpTo v) us
  looked v os us s (inl a) = rw a.1 (record {
    whole = λ w x. ⊎_elim (λ b. Contains-append_left os (v ∷ []) w (s.whole w x b)) (λ e. rw e (Contains-push os v));
    ascending = all_pairs_push ComesBefore os v s.ascending s.only;
    only = All-push (UpTo v) os v (All-weaker (λ w. ComesBefore w v) (UpTo v) (λ w b. inl b) os s.only) (inr refl);
  })
  looked v os us s (inr a) = rw a.1 (record {
    whole = λ w x. ⊎_elim (s.whole w x) (λ e. absurd (a.0 (rw e at x)));
    ascending = s.ascending;
    only = All-weaker (λ w. ComesBefore w v) (UpTo v) (λ w b. inl b) os s.only;
  })

  pub started : SoFar (range_with_len 1 r.n) []
  started = record {
    whole = λ w x b. absurd (none_before (range_with_len 1 r.n) rises w (reordered r.n w x.part x.whole) b);
    ascending = λ i j d h e. absurd (omega arith);
    only = All-nil (λ w. ComesBefore w (range_with_len 1 r.n));
  }
    where
      rises : (i j : ℕ) → i ≤ j → j < length (range_with_len 1 r.n) → get_or (range_with_len 1 r.n) i 0 ≤ get_or (range_with_len 1 r.n) j 0
      rises i j h e = omega (arith, length-range_with_len 1 r.n, get_or-range_with_len 1 r.n i 0, get_or-range_with_len 1 r.n j 0)

  -- each allowed order has the numbers of the order that is looked at
  same : (v w : List ℕ) → IsPermutation (range_with_len 1 r.n) v → IsAllowed r Keeps w → IsPermutation v w
  same v w p a = IsPermutation-trans v (range_with_len 1 r.n) w (IsPermutation-sym (range_with_len 1 r.n) v p) (reordered r.n w a.part a.whole)

  pub stepped : (v w : List ℕ) (os : List (List ℕ)) → Listing r Keeps (UpTo v) os → IsNext v w → IsPermutation (range_with_len 1 r.n) v → SoFar w os
  stepped v w os s n p = record {
    whole = λ u x b. ⊎_elim (s.whole u x) (λ a. absurd (n.none_between u (same v u p x) a b)) (upto-or-after u v);
    ascending = s.ascending;
    only = All-weaker (UpTo v) (λ u. ComesBefore u w) (λ u. ⊎_elim (λ b. before-trans u v w b n.after) (λ e. rw e n.after)) os s.only;
  }

  pub ended : (v : List ℕ) (os : List (List ℕ)) → Listing r Keeps (UpTo v) os → IsLast v → IsPermutation (range_with_len 1 r.n) v → (u : List ℕ) → IsAllowed r Keeps u → Contains os u
  ended v os s l p u x = ⊎_elim (s.whole u x) (λ a. absurd (l.none_after u (same v u p x) a)) (upto-or-after u v)
