-- What the laws of a rule give.
use Rattle.std.proofs.Common.{ℕ, List, [], ◌∷◌, ◌++◌, sym, subst, ⊎_elim}
use Rattle.std.proofs.lemmas.List.Sums.{fold_push}
use Rattle.std.proofs.lemmas.Bool.{cases_Bool}
use Rattle.doors.specs.Orders.{IsPartOrder, CanFollow}
use Rattle.doors.proofs.Orders.{part-ind}
use Rattle.rules.specs.Rules.{RuleSense, RuleLaws, state_of, IsExact}

module _ {S : Type 0} {n : ℕ} {R : RuleSense S} {Keeps : List ℕ → Type 0} {Stands : S → List ℕ → Type 0} (rule : RuleLaws n R Keeps Stands) where
  -- the state of a part order stands for it
  pub state-stands : (w : List ℕ) → IsPartOrder n w → Stands (state_of R w) w
  state-stands =
      part-ind n (λ w. Stands (state_of R w) w)
      (λ w j x h. subst (λ (s : S). Stands s (w ++ j ∷ [])) (sym (fold_push R.step R.start w j)) (rule.step_stands _ w j x h))
      rule.start_stands

  -- bars is exact at the state of a part order that keeps the rule
  pub bars-exactly : (w : List ℕ) (j : ℕ) → CanFollow n w j → Keeps w → IsExact Keeps w j (R.bars (state_of R w) j)
  bars-exactly w j x k = record {
    yes_breaks = rule.bars_breaks _ w j x (state-stands w x.part);
    breaks_yes = λ h. ⊎_elim (λ e. e) (λ e. absurd (h (rule.clear_keeps w j x k e))) (cases_Bool (R.bars (state_of R w) j));
  }
