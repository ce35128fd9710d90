-- Where no cost is answered, the list is no part order, or its verdict says what is wrong.
use Rattle.std.proofs.Common.{◌≡◌, ℕ, List, [], ◌∷◌, ◌++◌, Bor, MatchOption, sym, subst, subst₂, ◌∙◌, refl, append_assoc, arith}
use Rattle.std.proofs.lemmas.Bool.{both_ways}
use Rattle.doors.specs.Orders.{IsPartOrder, is_part_order}
use Rattle.doors.proofs.Orders.{part-is}
use Rattle.round.specs.declared.table.Round.{Round}
use Rattle.rules.specs.Rules.{RuleSense, RuleLaws}
use Rattle.orders.specs.declared.verdict.Verdict as verdicts
use Rattle.orders.specs.declared.verdict.Verdict.TheVariants as is
use Rattle.orders.specs.Allowed.{IsAllowed}
use Rattle.orders.specs.Verdicts.{VerdictMeans}
use Rattle.lister.proofs.list.cost_if_allowed.Goals as goal

-- what is not judged as allowed is no allowed order
not-judged : (r : Round) (Keeps : List ℕ → Type 0) {S : Type 0} {R : RuleSense S} {Stands : S → List ℕ → Type 0} → RuleLaws r.n R Keeps Stands
    → (w : List ℕ) (v : verdicts.Verdict) → VerdictMeans r Keeps w v → ¬ (v ≡ is.Allowed) → ¬ IsAllowed r Keeps w
not-judged r Keeps laws w is.Allowed j n a = n refl
not-judged r Keeps laws w is.Incomplete j n a = j a.whole
not-judged r Keeps laws w (is.Closes k) j n a = absurd (omega (arith, j.wrong, a.timely j.ahead k j.rest j.split))
not-judged r Keeps laws w (is.Breaks k) j n a =
    let split : w ≡ (j.ahead ++ k ∷ []) ++ j.rest = j.split ∙ sym (append_assoc j.ahead (k ∷ []) j.rest) in
    j.wrong.1 (laws.keeps_front (j.ahead ++ k ∷ []) j.rest (subst (IsPartOrder r.n) split a.part) (subst Keeps split a.keeps))

pub returns-in_err-order-clause-allowed : goal.returns-in_err-order-clause-allowed
returns-in_err-order-clause-allowed g c = λ s.
    let w = c.args.doors.now in
    let A = IsAllowed c.args.round.now (g.R.Rule.keeps c.args.rule.now) w in
    subst (λ r. MatchOption r (¬ A) (λ _. A)) (sym c.from_residual.ensures) (λ a. both_ways (is_part_order c.args.round.now.n w) c.in_err-order.ensures (part-is c.args.round.now.n w a.part))

pub returns-in_default : goal.returns-in_default
returns-in_default g c =
    let keeps = g.R.Rule.keeps c.args.rule.now in
    let same = c.in_ok-order.ensures in
    let means = subst₂ (λ (r : Bor Round) (w : Bor (List ℕ)). g.R.Rule.serves c.args.rule.now r.now.n → VerdictMeans r.now keeps w.now c.verdict.result) same.0 same.1 c.verdict.ensures.means in
    record {
      cost = tt;
      allowed = λ s. not-judged c.args.round.now keeps (g.met.R.Rule.lawful c.args.rule.now c.args.round.now.n s) c.args.doors.now c.verdict.result (means s) c.in_default.not-Allowed;
    }
