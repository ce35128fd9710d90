-- The rule of pairs is lawful.
use Rattle.std.specs.Prelude.{◌≡◌, ℕ, ◌^◌, not, ◌⊎◌, List, fold, ◌==◌, bit_and, bit_or, slice_index, refl}
use Rattle.std.proofs.Common.{inl, inr, ⊎_elim, arith, subst}
use Rattle.std.specs.Int.Bits.{or_self}
use Rattle.std.proofs.lemmas.List.Sums.{fold_push}
use Rattle.std.proofs.lemmas.Bool.{cond-true, cond-false, eq-eqb, eqb-true}
use Rattle.std.proofs.lemmas.Bool.Decides.{nat_tests}
use Rattle.doors.specs.Orders.{StandsIn, IsDoor, IsPartOrder, is_door}
use Rattle.doors.specs.Sets.{Has}
use Rattle.doors.proofs.Orders.{door-is, not-door, part-ind, in-last, last-in, each_none, each-front, each_last, each_more}
use Rattle.doors.proofs.Sets.{has-none, has_left, has_right, has-added, has_more, within-and, and-within}
use Rattle.rules.specs.Pairs.{IsOrdered, set_with, lacks_first, pairs_sense}
use Rattle.rules.specs.Rules.{RuleLaws}

module _ (n : ℕ) (ahead : List ℕ) where
  adds-door : (s j : ℕ) → IsDoor n j → set_with n s j ≡ bit_or s (2 ^ j)
  adds-door s j d = cond-true (is_door n j) _ _ (door-is n j d)

  lacks-door : (s j : ℕ) → IsDoor n j → lacks_first n ahead s j ≡ not (bit_and (slice_index ahead j) s == slice_index ahead j)
  lacks-door s j d = cond-true (is_door n j) _ _ (door-is n j d)

  -- it has what s has, and j
  adds-has : (s i j : ℕ) → IsDoor n j → Has s i ⊎ (i ≡ j) → Has (set_with n s j) i
  adds-has s i j d h = rw (adds-door s j d) (⊎_elim (has_left s (2 ^ j) i) (λ e. rw e (has-added s j)) h)

  -- the state of a part order has its doors and no other
  state-in : (w : List ℕ) → IsPartOrder n w → (i : ℕ) → Has (fold (set_with n) 0 w) i → StandsIn i w
  state-in =
      part-ind n (λ w. (i : ℕ) → Has (fold (set_with n) 0 w) i → StandsIn i w)
      (λ w j x ih i h.
      let s = fold (set_with n) 0 w in
      let more = has_more s j i (rw (fold_push (set_with n) 0 w j, adds-door s j x.door) at h) in
      last-in w i j (⊎_elim inr (λ a. inl (ih i a)) more))
      (λ i h. absurd (has-none i h))

  pub pairs_lawful : RuleLaws n (pairs_sense n ahead) (IsOrdered ahead) (λ s w. (i : ℕ) → StandsIn i w → Has s i)
  pairs_lawful = record {
    keeps_none = each_none _;
    keeps_front = λ w v p h. each-front _ w v h;
    start_stands = λ i h. absurd h;
    step_stands = λ s w j x h i e. adds-has s i j x.door (⊎_elim (λ a. inl (h i a)) inr (in-last w i j e));
    cover_left = λ s t w p h i e. has_left s t i (h i e);
    cover_right = λ s t w p h i e. has_right s t i (h i e);
    cover_same = or_self;
    bars_breaks = λ s w j x h b k.
        let all : bit_and (slice_index ahead j) s ≡ slice_index ahead j = within-and (slice_index ahead j) s (λ i p. h i (each_last _ w j k i p)) in
        let some = lacks-door s j x.door in
        grind (arith, nat_tests);
    clear_keeps = λ w j x k b.
        let s = fold (set_with n) 0 w in
        let none = lacks-door s j x.door in
        let all : bit_and (slice_index ahead j) s ≡ slice_index ahead j = grind (arith, nat_tests) in
        each_more _ w j k (λ i p. state-in w x.part i (and-within (slice_index ahead j) s i all p));
    same_is = eqb-true;
    same_self = λ s. eq-eqb s s refl;
    outside_step = λ s j h. cond-false (is_door n j) _ _ (not-door n j h);
    outside_bars = λ s j h. cond-false (is_door n j) _ _ (not-door n j h);
  }

  -- so it is in rounds of m doors, where n is m
  pub pairs_lawful_for : (m : ℕ) → n ≡ m
      → RuleLaws m (pairs_sense n ahead) (IsOrdered ahead) (λ s w. (i : ℕ) → StandsIn i w → Has s i)
  pairs_lawful_for m e =
      subst (λ (m : ℕ). RuleLaws m (pairs_sense n ahead) (IsOrdered ahead) (λ s w. (i : ℕ) → StandsIn i w → Has s i)) e pairs_lawful
