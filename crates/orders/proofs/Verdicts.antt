-- A verdict, door by door, and what it means.
use Rattle.std.proofs.Common.{◌≡◌, ℕ, ◌≤◌, false, List, [], ◌∷◌, ◌++◌, length, refl, ap, ◌∙◌, append_assoc, append-nil, arith}
use Rattle.std.specs.Prelude.{nat_lt}
use Rattle.std.proofs.lemmas.List.Sums.{fold_push}
use Rattle.std.proofs.lemmas.Bool.{cond_both, ltb-true, ltb-false}
use Rattle.doors.specs.Orders.{IsPartOrder}
use Rattle.doors.proofs.Orders.{part-next, each_none, each_more}
use Rattle.round.specs.declared.table.Round.{Round}
use Rattle.round.specs.Clock.{door}
use Rattle.rules.specs.Rules.{RuleSense, RuleLaws, state_of}
use Rattle.rules.proofs.States.{state-stands}
use Rattle.orders.specs.declared.van.Van.{Van}
use Rattle.orders.specs.Times.{yard, next_van, van_after, finish_of, KeepsHours}
use Rattle.orders.specs.Verdicts.{verdict_from, VerdictMeans}

module _ {S : Type 0} (r : Round) (R : RuleSense S) (Keeps : List ℕ → Type 0) (Stands : S → List ℕ → Type 0) (rule : RuleLaws r.n R Keeps Stands) where
  -- the doors u are in order, and v is what is left of the whole
  from : (u v : List ℕ) → IsPartOrder r.n (u ++ v) → length (u ++ v) ≡ r.n → KeepsHours r u → Keeps u → VerdictMeans r Keeps (u ++ v) (verdict_from r R (van_after r u) (state_of R u) v)
  from u [] p l t k = record { part = p; whole = l; keeps = rw append-nil k; timely = rw append-nil t }
  from u (j ∷ v) p l t k =
      let next = part-next r.n u j v p in
      let van : van_after r (u ++ j ∷ []) ≡ next_van r (van_after r u) j = fold_push (next_van r) yard u j in
      let finish = ap (λ (a : Van). a.finish) van in
      let whole = append_assoc u (j ∷ []) v in
      let closes = nat_lt (door r j).closes (next_van r (van_after r u) j).finish in
      let bars = R.bars (state_of R u) j in
      let in_time : closes ≡ false → finish_of r (u ++ j ∷ []) ≤ (door r j).closes = λ e. omega (arith, ltb-false _ _ e) in
      cond_both closes _ _ (VerdictMeans r Keeps (u ++ j ∷ v))
      (λ e. record { ahead = u; rest = v; split = refl; timely = t; keeps = k; wrong = omega (arith, ltb-true _ _ e) })
      (λ e. cond_both bars _ _ (VerdictMeans r Keeps (u ++ j ∷ v))
      (λ b. record { ahead = u; rest = v; split = refl; timely = t; keeps = k; wrong = (in_time e, rule.bars_breaks (state_of R u) u j next (state-stands rule u next.part) b) })
      (λ b.
      let rest = from (u ++ j ∷ []) v (rw whole p) (ap length whole ∙ l) (each_more _ u j t (in_time e)) (rule.clear_keeps u j next k b) in
      rw (whole, van, fold_push R.step R.start u j) at rest))

pub judged : (r : Round) {S : Type 0} (R : RuleSense S) (Keeps : List ℕ → Type 0) (Stands : S → List ℕ → Type 0) → RuleLaws r.n R Keeps Stands → (w : List ℕ) → IsPartOrder r.n w → length w ≡ r.n → VerdictMeans r Keeps w (verdict_from r R yard R.start w)
judged r R Keeps Stands rule w p l = from r R Keeps Stands rule [] w p l (each_none _) rule.keeps_none
