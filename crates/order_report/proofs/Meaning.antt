-- What a verdict says of allowed orders, and of orders of all doors.
use Rattle.std.proofs.Common.{Bor, ◌≡◌, ◌↔◌, ℕ, true, false, ⊎_elim, List, [], ◌∷◌, ◌++◌, length, ◌==◌, sym, refl, ◌∙◌, append_assoc, arith}
use Rattle.std.proofs.lemmas.Bool.{cond-false, both_ways, cases_Bool, eqb-true}
use Rattle.doors.specs.Orders.{is_part_order}
use Rattle.doors.proofs.Orders.{is-part, part-is, each-front}
use Rattle.round.specs.declared.table.Round.{Round}
use Rattle.rules.specs.KeepersLaws.{spaced-front}
use Rattle.rules.specs.Sides.{KeepsSides, sides_by}
use Rattle.orders.specs.declared.verdict.Verdict as verdicts
use Rattle.orders.specs.declared.verdict.Verdict.TheVariants as is
use Rattle.orders.specs.Verdicts.{VerdictMeans, verdict}
use Rattle.allowed.specs.Orders.{IsFullOrder, IsAllowedOrder, KeepsRules}
use Rattle.allowed.specs.Senses.{side_of}

-- what is no part order is no order of all doors
pub no_full_order : (r : Round) (w : List ℕ) → is_part_order r.n w ≡ false → ¬ IsFullOrder r w
no_full_order r w e f = both_ways _ e (part-is r.n w f.part)

-- A verdict on an order o of the round r and the doors w, by rules a, b and c that read the round's own tables.
module _ (r a b c o : Bor Round) (w u : Bor (List ℕ)) (v : verdicts.Verdict) (p : a ≡ r) (q : b ≡ r) (k : c ≡ r) (s : o ≡ r) (t : u ≡ w) where
  pub own_verdict : v ≡ verdict o.now (sides_by a.now b.now c.now) u.now
      → v ≡ verdict r.now (side_of r.now) w.now
  own_verdict h = rw (p, q, k, s, t) at h

  pub own_meaning : (((a.now.n ≡ o.now.n) × (b.now.n ≡ o.now.n)) × (c.now.n ≡ o.now.n) → VerdictMeans o.now (KeepsSides a.now b.now c.now) u.now v)
      → VerdictMeans r.now (KeepsRules r.now) w.now v
  own_meaning h = (rw (p, q, k, s, t) at h) ((refl, refl), refl)

  -- a part order that is not said to be incomplete is an order of all doors
  pub full_order : is_part_order o.now.n u.now ≡ true → v ≡ verdict r.now (side_of r.now) w.now → ¬ (v ≡ is.Incomplete) → IsFullOrder r.now w.now
  full_order e same h = record {
    part = is-part r.now.n w.now (rw (s, t) at e);
    whole = ⊎_elim (eqb-true _ _) (λ f. absurd (h (same ∙ cond-false _ _ is.Incomplete f))) (cases_Bool (length w.now == r.now.n));
  }

-- a verdict is yes exactly for an allowed order
pub allowed_exactly : (r : Round) (w : List ℕ) (v : verdicts.Verdict) → VerdictMeans r (KeepsRules r) w v → (v ≡ is.Allowed) ↔ IsAllowedOrder r w
allowed_exactly r w is.Allowed h = (λ e. record { full = record { part = h.part; whole = h.whole }; ordered = h.keeps.0.0; within = h.keeps.0.1; spaced = h.keeps.1; timely = h.timely }, λ a. refl)
allowed_exactly r w is.Incomplete h = ((λ e. cc), λ a. absurd (h a.full.whole))
allowed_exactly r w (is.Closes j) h = ((λ e. cc), λ a. absurd (omega (arith, h.wrong, a.timely h.ahead j h.rest h.split)))
allowed_exactly r w (is.Breaks j) h = (
  (λ e. cc),
  λ a.
      let begun = h.ahead ++ j ∷ [] in
      let whole : w ≡ begun ++ h.rest = h.split ∙ sym (append_assoc h.ahead (j ∷ []) h.rest) in
      absurd (h.wrong.1 ((each-front _ begun h.rest (rw whole at a.ordered), each-front _ begun h.rest (rw whole at a.within)), spaced-front _ begun h.rest (rw whole at a.spaced))),
)
