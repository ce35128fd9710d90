-- The rule of the first door is lawful.
use Rattle.std.specs.Prelude.{◌≡◌, ℕ, Bool, true, false, not, ◌&&◌, ◌||◌, List, [], ◌∷◌, ◌++◌, fold, ◌==◌, refl}
use Rattle.std.proofs.Common.{sym, ap, ◌∙◌, subst, arith}
use Rattle.std.proofs.lemmas.Bool.{or_parts, or_right, both_ways}
use Rattle.std.proofs.lemmas.Bool.Decides.{nat_tests}
use Rattle.doors.specs.Orders.{is_door}
use Rattle.doors.proofs.Orders.{door-is, not-door}
use Rattle.rules.specs.Rules.{RuleLaws}
use Rattle.cases.specs.Opener.{Begins, same_bool, opener_sense}

or-true : (s : Bool) → (s || s) ≡ s
or-true true = refl
or-true false = refl

same_is : (s t : Bool) → same_bool s t ≡ true → s ≡ t
same_is true t e = sym e
same_is false true e = e
same_is false false e = refl

same_self : (s : Bool) → same_bool s s ≡ true
same_self true = refl
same_self false = refl

begins-front : (d : ℕ) (w v : List ℕ) → Begins d (w ++ v) → Begins d w
begins-front d [] v h = tt
begins-front d (x ∷ w) v h = h

no_end : (s : Bool) → (s || false) ≡ s
no_end true = refl
no_end false = refl

module _ (n d : ℕ) where
  abbrev Stands : Bool → List ℕ → Type 0
  Stands s w = s ≡ false → w ≡ []

  bars-one : (s : Bool) (w : List ℕ) (j : ℕ) → Stands s w → (not s && (is_door n j && not (j == d))) ≡ true → ¬ Begins d (w ++ j ∷ [])
  bars-one true w j h b k = grind arith
  bars-one false w j h b k = let first = rw (h refl) at k in grind (arith, nat_tests)

  clear-one : (w : List ℕ) (j : ℕ) → is_door n j ≡ true → Begins d w → (not (fold (λ s i. s || is_door n i) false w) && (is_door n j && not (j == d))) ≡ false → Begins d (w ++ j ∷ [])
  clear-one [] j door k b = grind (arith, nat_tests)
  clear-one (x ∷ w) j door k b = k

  pub opener_lawful : RuleLaws n (opener_sense n d) (Begins d) Stands
  opener_lawful = record {
    keeps_none = tt;
    keeps_front = λ w v p h. begins-front d w v h;
    start_stands = λ e. refl;
    step_stands = λ s w j x h e. absurd (both_ways _ e (or_right s _ (door-is n j x.door)));
    cover_left = λ s t w p h e. h (or_parts s t e).0;
    cover_right = λ s t w p h e. h (or_parts s t e).1;
    cover_same = or-true;
    bars_breaks = λ s w j x h b k. bars-one s w j h b k;
    clear_keeps = λ w j x k b. clear-one w j (door-is n j x.door) k b;
    same_is = same_is;
    same_self = same_self;
    outside_step = λ s j h. ap (λ (b : Bool). s || b) (not-door n j h) ∙ no_end s;
    outside_bars = λ s j h. ap (λ (b : Bool). not s && (b && not (j == d))) (not-door n j h) ∙ no_both (not s);
  }
    where
      no_both : (t : Bool) → (t && false) ≡ false
      no_both true = refl
      no_both false = refl

  -- so it is in rounds of m doors, where n is m
  pub opener_lawful_for : (m : ℕ) → n ≡ m → RuleLaws m (opener_sense n d) (Begins d) Stands
  opener_lawful_for m e = subst (λ (m : ℕ). RuleLaws m (opener_sense n d) (Begins d) Stands) e opener_lawful
