-- Two lawful rules together are lawful.
use Rattle.std.specs.Prelude.{◌≡◌, ℕ, false, ◌||◌, List, [], ◌∷◌, fold, refl}
use Rattle.std.proofs.Common.{subst, ⊎_elim}
use Rattle.std.proofs.lemmas.Bool.{and_parts, and_from, or_cases, or_parts, or_from}
use Rattle.rules.specs.Boths.{both_sense}
use Rattle.rules.specs.Rules.{RuleSense, RuleLaws, state_of}

folded_both : {S U : Type 0} (f : S → ℕ → S) (g : U → ℕ → U) (s : S) (u : U) (w : List ℕ) → fold {A = ℕ} {B = S × U} (λ p j. (f p.0 j, g p.1 j)) (s, u) w ≡ (fold f s w, fold g u w)
folded_both f g s u [] = refl
folded_both f g s u (j ∷ w) = folded_both f g (f s j) (g u j) w

module _ {S U : Type 0} {n : ℕ} {A : RuleSense S} {B : RuleSense U} {KeepsA KeepsB : List ℕ → Type 0} {StandsA : S → List ℕ → Type 0} {StandsB : U → List ℕ → Type 0} (a : RuleLaws n A KeepsA StandsA) (b : RuleLaws n B KeepsB StandsB) where
  pub both_lawful : RuleLaws n (both_sense A B) (λ w. KeepsA w × KeepsB w) (λ s w. StandsA s.0 w × StandsB s.1 w)
  both_lawful = record {
    keeps_none = (a.keeps_none, b.keeps_none);
    keeps_front = λ w v p h. (a.keeps_front w v p h.0, b.keeps_front w v p h.1);
    start_stands = (a.start_stands, b.start_stands);
    step_stands = λ s w j x h. (a.step_stands s.0 w j x h.0, b.step_stands s.1 w j x h.1);
    cover_left = λ s t w p h. (a.cover_left s.0 t.0 w p h.0, b.cover_left s.1 t.1 w p h.1);
    cover_right = λ s t w p h. (a.cover_right s.0 t.0 w p h.0, b.cover_right s.1 t.1 w p h.1);
    cover_same = λ s. λ i. (a.cover_same s.0 i, b.cover_same s.1 i);
    bars_breaks = λ s w j x h e k. ⊎_elim (λ c. a.bars_breaks s.0 w j x h.0 c k.0) (λ c. b.bars_breaks s.1 w j x h.1 c k.1) (or_cases _ _ e);
    clear_keeps = λ w j x k e.
        let c = or_parts (A.bars (state_of A w) j) (B.bars (state_of B w) j) (subst (λ (s : S × U). (A.bars s.0 j || B.bars s.1 j) ≡ false) (folded_both A.step B.step A.start B.start w) e) in
        (a.clear_keeps w j x k.0 c.0, b.clear_keeps w j x k.1 c.1);
    same_is = λ s t e. let p = and_parts (A.same s.0 t.0) _ e in λ i. (a.same_is s.0 t.0 p.0 i, b.same_is s.1 t.1 p.1 i);
    same_self = λ s. and_from _ _ (a.same_self s.0) (b.same_self s.1);
    outside_step = λ s j h. λ i. (a.outside_step s.0 j h i, b.outside_step s.1 j h i);
    outside_bars = λ s j h. or_from _ _ (a.outside_bars s.0 j h) (b.outside_bars s.1 j h);
  }
