-- The rule of the keepers is lawful.
use Rattle.std.specs.Prelude.{◌≡◌, ℕ, zero, suc, ◌+◌, ◌^◌, ◌<◌, ◌≤◌, Bool, true, false, not, ◌&&◌, ◌||◌, ◌⊎◌, List, [], ◌∷◌, ◌++◌, fold, ◌==◌, bit_and, bit_or, slice_index, slice_index_or, length, refl}
use Rattle.std.specs.List.{list_all, list_any, range_with_len}
use Rattle.std.proofs.Common.{inl, inr, ⊎_elim, arith, subst, sym, ap, ◌∙◌, append_assoc}
use Rattle.std.specs.Int.{bit_at}
use Rattle.std.specs.Int.Bits.{or_self}
use Rattle.std.proofs.lemmas.Bool.{cond-true, cond-false, eq-eqb, eqb-true, and_parts, both_ways, cases_Bool}
use Rattle.std.proofs.lemmas.Bool.Decides.{nat_tests}
use Rattle.std.proofs.lemmas.List.Folds.{list_any_at, list_all_at}
use Rattle.std.proofs.lemmas.List.FromFn.{length-range_with_len, get_or-range_with_len}
use Rattle.std.proofs.lemmas.List.Sums.{fold_push}
use Rattle.std.proofs.lemmas.Nat.Bits.{bit_at-lt, bit_at-pow_same, bit_at-pow_other, bit_at-zero, bit_at_above, same_from_bits}
use Rattle.doors.specs.Orders.{StandsIn, IsDoor, IsPartOrder, CanFollow, AtEach, is_door}
use Rattle.doors.specs.Sets.{Has, has}
use Rattle.doors.proofs.Orders.{door-is, not-door, part-ind, last-in, each_none, each_last, each_more}
use Rattle.doors.proofs.Sets.{and-within, digit_and, has-added, has_left, has_more, has_right, part-door, within-and}
use Rattle.round.specs.declared.table.Round.{Round}
use Rattle.rules.specs.Keepers.{ShareKeeper, IsSpaced, last_door, share_keeper, share_as_others, is_other, any_other, all_share, only_door, repeats_keeper, keepers_sense}
use Rattle.rules.specs.Rules.{RuleLaws}

-- ---- tests over the places from 0 to n

-- what passes at each place passes at all
all_places : (p : ℕ → Bool) (k a : ℕ) → ((i : ℕ) → p i ≡ true) → list_all p (range_with_len a k) ≡ true
all_places p zero a h = refl
all_places p (suc k) a h = rw (h a) (all_places p k (a + 1) h)

-- place i is one of them
place_at : (n i : ℕ) → i ≤ n → (i < length (range_with_len 0 (n + 1))) × (slice_index_or (range_with_len 0 (n + 1)) i 0 ≡ i)
place_at n i l = (omega (arith, length-range_with_len 0 (n + 1)), omega (arith, get_or-range_with_len 0 (n + 1) i 0 (omega arith)))

-- what passes at every place from 0 to n passes at place i
at_place : (p : ℕ → Bool) (n i : ℕ) → i ≤ n → list_all p (range_with_len 0 (n + 1)) ≡ true → p i ≡ true
at_place p n i l e =
    let a = place_at n i l in
    ⊎_elim (λ t. t) (λ f. absurd (cc (list_all_at p (range_with_len 0 (n + 1)) i 0 a.0 (ap p a.1 ∙ f)))) (cases_Bool (p i))

-- a beginning of a list that is spaced is spaced
pub spaced-front : (keepers w v : List ℕ) → IsSpaced keepers (w ++ v) → IsSpaced keepers w
spaced-front keepers w v h u i j x e = h u i j (x ++ v) (ap (λ t. t ++ v) e ∙ append_assoc u (i ∷ j ∷ x) v)

-- ---- the last door

last-push : (w : List ℕ) (j : ℕ) → last_door (w ++ j ∷ []) ≡ j
last-push w j = fold_push (λ _ j. j) 0 w j

-- a list that has an element ends with its last
ends-with : (a : ℕ) (w : List ℕ) → (u : List ℕ) × (a ∷ w ≡ u ++ last_door (a ∷ w) ∷ [])
ends-with a [] = ([], refl)
ends-with a (x ∷ w) = let e = ends-with x w in (a ∷ e.0, ap (λ t. a ∷ t) e.1)

-- two tests that come to other two
decided : (a b x y : Bool) → (b ≡ true → y ≡ true) → (y ≡ true → b ≡ true) → (x ≡ true → (a && b) ≡ false) → (a ≡ false → x ≡ true) → (a && b) ≡ (not x && y)
decided a b x y f g h k = grind arith

module _ (keepers : List ℕ) where
  -- whether they share one, as the test says
  shares : (i j : ℕ) → share_keeper keepers i j ≡ true → ShareKeeper keepers i j
  shares i j e = grind (arith, nat_tests)

  sharing : (i j : ℕ) → ShareKeeper keepers i j → share_keeper keepers i j ≡ true
  sharing i j h = grind (arith, nat_tests, h)

  -- ---- the tests over all places

  -- where all other members share j's keeper, this one does
  shares-at : (s j i : ℕ) → all_share keepers s j ≡ true → i ≤ 31 → is_other s j i ≡ true → share_keeper keepers i j ≡ true
  unfolding all_share
  shares-at s j i e l o =
      let q = at_place (λ i. not (is_other s j i) || share_keeper keepers i j) 31 i l e in
      grind (arith, nat_tests)

  all-share : (s j : ℕ) → ((i : ℕ) → is_other s j i ≡ true → share_keeper keepers i j ≡ true) → all_share keepers s j ≡ true
  unfolding all_share
  all-share s j h = all_places (λ i. not (is_other s j i) || share_keeper keepers i j) 32 0 (λ i. grind (arith, nat_tests, h i))

  -- a member other than j is found
  any-at : (s j i : ℕ) → i ≤ 31 → is_other s j i ≡ true → any_other s j ≡ true
  unfolding any_other
  any-at s j i l o =
      let a = place_at 31 i l in
      list_any_at (is_other s j) (range_with_len 0 32) i 0 a.0 (ap (is_other s j) a.1 ∙ o)

  -- where no member shares j's keeper, either there is no other, or not all do
  none-share : (s j : ℕ) → ((i : ℕ) → is_other s j i ≡ true → share_keeper keepers i j ≡ false) → (any_other s j && all_share keepers s j) ≡ false
  unfolding any_other all_share
  none-share s j h = go 32 0
    where
      go : (k a : ℕ) → (list_any (is_other s j) (range_with_len a k) && list_all (λ i. not (is_other s j i) || share_keeper keepers i j) (range_with_len a k)) ≡ false
      go zero a = refl
      go (suc k) a = grind (arith, nat_tests, go k (a + 1), h a)

  -- ---- by masks: s the state, and p the other doors of j's keeper
  module _ (s p j : ℕ) (fits : s < 2 ^ 32) (others : (i : ℕ) → has p i ≡ share_as_others keepers i j) where
    member-place : (i : ℕ) → Has s i → i ≤ 31
    member-place i h = grind (arith, bit_at_above s 32 i)

    -- all other members share j's keeper exactly if the set is within p and j
    within : all_share keepers s j ≡ true → bit_and s (bit_or p (2 ^ j)) ≡ s
    within e =
        within-and s (bit_or p (2 ^ j))
        (λ i h. grind (arith, nat_tests, shares-at s j i e (member-place i h), others i, has-added p j, has_left p (2 ^ j) i))

    sharing-within : bit_and s (bit_or p (2 ^ j)) ≡ s → all_share keepers s j ≡ true
    sharing-within e = all-share s j (λ i o. grind (arith, nat_tests, and-within s (bit_or p (2 ^ j)) i e, has_more p j i, others i))

    -- some other member does only if a door of p is in the set
    none-shared : bit_and s p ≡ 0 → (any_other s j && all_share keepers s j) ≡ false
    none-shared e = none-share s j (λ i o. grind (arith, nat_tests, digit_and s p i, ap (λ (x : ℕ). bit_at x i) e, bit_at-zero i, others i))

    none-there : any_other s j ≡ false → bit_and s p ≡ 0
    none-there e = same_from_bits (bit_and s p) 0 (λ i. one i)
      where
        one : (i : ℕ) → bit_at (bit_and s p) i ≡ bit_at 0 i
        one i = grind (arith, nat_tests, digit_and s p i, bit_at-zero i, bit_at-lt s i, bit_at-lt p i, others i, member-place i, any-at s j i)

    pub bars_by_masks : (any_other s j && all_share keepers s j) ≡ (not (bit_and s p == 0) && bit_and s (bit_or p (2 ^ j)) == s)
    bars_by_masks =
        decided (any_other s j) (all_share keepers s j) (bit_and s p == 0) (bit_and s (bit_or p (2 ^ j)) == s)
        (λ e. eq-eqb _ _ (within e)) (λ e. sharing-within (eqb-true _ _ e)) (λ e. none-shared (eqb-true _ _ e)) (λ e. eq-eqb _ _ (none-there e))

  -- at each door of w, the last of the doors ahead has another keeper, or none
  abbrev Apart : List ℕ → ℕ → Type 0
  Apart u j = ¬ ShareKeeper keepers (last_door u) j

  each-apart : slice_index keepers 0 ≡ 0 → (w : List ℕ) → IsSpaced keepers w → AtEach Apart w
  each-apart yard w h [] j v e k = k.0 (sym k.1 ∙ yard)
  each-apart yard w h (x ∷ u) j v e k =
      let s = ends-with x u in
      h s.0 (last_door (x ∷ u)) j v (e ∙ ap (λ t. t ++ j ∷ v) s.1 ∙ append_assoc s.0 (last_door (x ∷ u) ∷ []) (j ∷ v)) k

  pub apart-each : (w : List ℕ) → AtEach Apart w → IsSpaced keepers w
  apart-each w h u i j v e k =
      h (u ++ i ∷ []) j v (e ∙ sym (append_assoc u (i ∷ []) (j ∷ v))) (subst (λ (l : ℕ). ShareKeeper keepers l j) (sym (last-push u i)) k)

module _ (r : Round) where
  leaves-door : (s j : ℕ) → IsDoor r.n j → only_door r.n s j ≡ 2 ^ j
  leaves-door s j d = cond-true (is_door r.n j) _ _ (door-is r.n j d)

  -- the state of a part order has its last door alone
  state-is : (w : List ℕ) → IsPartOrder r.n w → fold (only_door r.n) 1 w ≡ 2 ^ last_door w
  state-is =
      part-ind r.n (λ w. fold (only_door r.n) 1 w ≡ 2 ^ last_door w)
      (λ w j x ih. rw (fold_push (only_door r.n) 1 w j, last-push w j) (leaves-door _ j x.door))
      refl

  -- it stands in the part order, if there is one
  last-stands : (w : List ℕ) → IsPartOrder r.n w → (last_door w ≡ 0) ⊎ StandsIn (last_door w) w
  last-stands =
      part-ind r.n (λ w. (last_door w ≡ 0) ⊎ StandsIn (last_door w) w)
      (λ w j x ih. inr (last-in w _ j (inr (last-push w j))))
      (inl refl)

  -- so it is one of the places of a set, and not the door that follows
  last-place : (w : List ℕ) (j : ℕ) → CanFollow r.n w j → last_door w ≤ 31
  last-place w j x =
      ⊎_elim (λ e. omega arith) (λ h. omega (arith, (part-door r.n w _ x.part h).high, r.most)) (last-stands w x.part)

  last-other : (w : List ℕ) (j : ℕ) → CanFollow r.n w j → ¬ (last_door w ≡ j)
  last-other w j x e =
      ⊎_elim (λ z. omega (arith, x.door.low)) (λ h. x.new (subst (λ (i : ℕ). StandsIn i w) e h)) (last-stands w x.part)

  pub keepers_lawful : RuleLaws r.n (keepers_sense r.n r.keepers) (IsSpaced r.keepers) (λ s w. Has s (last_door w))
  keepers_lawful = record {
    keeps_none = apart-each r.keepers [] (each_none _);
    keeps_front = λ w v p h. spaced-front r.keepers w v h;
    start_stands = refl;
    step_stands = λ s w j x h. rw (leaves-door s j x.door, last-push w j) (bit_at-pow_same j);
    cover_left = λ s t w p h. has_left s t (last_door w) h;
    cover_right = λ s t w p h. has_right s t (last_door w) h;
    cover_same = or_self;
    bars_breaks = λ s w j x h b k.
        let l = last_door w in
        let p = and_parts (any_other s j) _ (and_parts (is_door r.n j) _ b).1 in
        let other : is_other s j l ≡ true = grind (arith, nat_tests, last-other w j x) in
        each_last _ w j (each-apart r.keepers r.keeper_yard _ k) (shares r.keepers l j (shares-at r.keepers s j l p.1 (last-place w j x) other));
    clear_keeps = λ w j x k b.
        let l = last_door w in
        let other : is_other (2 ^ l) j l ≡ true = grind (arith, nat_tests, last-other w j x, bit_at-pow_same l) in
        let any = any-at r.keepers (2 ^ l) j l (last-place w j x) other in
        let clear : repeats_keeper r.n r.keepers (2 ^ l) j ≡ false = rw (state-is w x.part) at b in
        apart-each r.keepers _ (each_more _ w j (each-apart r.keepers r.keeper_yard w k) (λ h.
        let all = all-share r.keepers (2 ^ l) j (λ i o. grind (arith, nat_tests, sharing r.keepers l j h, bit_at-pow_other l i)) in
        both_ways _ clear (rw (door-is r.n j x.door, any, all) refl)));
    same_is = eqb-true;
    same_self = λ s. eq-eqb s s refl;
    outside_step = λ s j h. cond-false (is_door r.n j) _ _ (not-door r.n j h);
    outside_bars = λ s j h. rw (not-door r.n j h) refl;
  }

  -- so it is in rounds of m doors, where the round is one
  pub keepers_lawful_for : (m : ℕ) → r.n ≡ m
      → RuleLaws m (keepers_sense r.n r.keepers) (IsSpaced r.keepers) (λ s w. Has s (last_door w))
  keepers_lawful_for m e =
      subst (λ (m : ℕ). RuleLaws m (keepers_sense r.n r.keepers) (IsSpaced r.keepers) (λ s w. Has s (last_door w))) e keepers_lawful
