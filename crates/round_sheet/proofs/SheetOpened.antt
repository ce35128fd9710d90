-- The diagram that the code opens and refines, whose rule and tally borrow the round, is that of the definitions.
use Rattle.std.proofs.Common.{◌≡◌, ℕ, true, List, [], ◌∷◌, Bor, refl, ap, subst, ◌∙◌}
use Rattle.round.specs.declared.table.Round.{Round}
use Rattle.rules.specs.Rules.{RuleSense}
use Rattle.rules.specs.Sides.{SideState, KeepsSides, sides_by}
use Rattle.tallies.specs.Late.{late_sense}
use Rattle.tallies.specs.Tallies.{TallySense}
use Rattle.layers.specs.declared.refined.Refined.TheVariants.{Whole}
use Rattle.layers.specs.declared.call.Call.TheVariants.{Refine}
use Rattle.layers.specs.Settings.{Setting, setting}
use Rattle.layers.specs.Calls.{after_call, after_calls, after_open, refinement, bound, is_settled}
use Rattle.layers.specs.Claim.{ClaimHolds, WholeSettles}
use Rattle.diagram.specs.declared.room.Room.{Room}
use Rattle.diagram.specs.Musts.{musts}
use Rattle.allowed.specs.Senses.{side_of, late_of}
use Rattle.round_sheet.specs.declared.sheet.Sheet.{Sheet}
use Rattle.round_sheet.specs.Sheets.{Records, setting_for, opened_for, refined_for, sheet_of}
use Rattle.round_sheet.proofs.SheetClaims.{Claimed}

-- what pairs on the round a, load on the round b and keepers on the round c answer, and late doors on the round t
abbrev pub side : Bor Round → Bor Round → Bor Round → RuleSense SideState
side a b c = sides_by a.now b.now c.now

abbrev pub late : Bor Round → TallySense (ℕ × ℕ)
late t = late_sense t.now.n t.now.doors

-- which orders keep them
abbrev pub kept : Bor Round → Bor Round → Bor Round → List ℕ → Type 0
kept a b c w = KeepsSides a.now b.now c.now w

module _ (m : Room) (a b c t : Bor Round) (pairs : a ≡ m.round) (load : b ≡ m.round) (keepers : c ≡ m.round) (due : t ≡ m.round) (wide : m.width ≡ 16) where
  abbrev r : Round
  r = m.round.now

  -- what holds of the code's rule, tally and width holds of those of the definitions
  carried : (P : RuleSense SideState → (List ℕ → Type 0) → TallySense (ℕ × ℕ) → ℕ → Type 0)
      → P (side a b c) (kept a b c) (late t) m.width → P (side_of r) (kept m.round m.round m.round) (late_of r) 16
  carried P h =
      subst (P (side_of r) (kept m.round m.round m.round) (late_of r)) wide
      (subst (λ (x : Bor Round). P (side_of r) (kept m.round m.round m.round) (late x) m.width) due
      (subst (λ (x : Bor Round). P (side m.round m.round x) (kept m.round m.round x) (late t) m.width) keepers
      (subst (λ (x : Bor Round). P (side m.round x c) (kept m.round x c) (late t) m.width) load
      (subst (λ (x : Bor Round). P (side x b c) (kept x b c) (late t) m.width) pairs h))))

  -- the code's setting, in a room that is this one
  abbrev pub code : Room → Setting SideState (ℕ × ℕ)
  code l = setting l.round.now (side a b c) (late t) l.width

  module _ (lent opened : Records) (o : Room) (same : o ≡ m) (is_opened : opened ≡ after_open (code o) lent) where
    is_opened_for : opened ≡ opened_for r lent
    is_opened_for = carried (λ R K T W. opened ≡ after_open (setting r R T W) lent) (subst (λ (x : Room). opened ≡ after_open (code x) lent) same is_opened)

    -- the claim after one refine
    pub claimed : ClaimHolds (code o) (kept a b c) (Refine ∷ []) (after_calls (code o) (Refine ∷ []) opened) → Claimed r (refined_for r lent).1
    unfolding after_call
    claimed s =
        subst (λ xs. Claimed r (refinement (setting_for r) xs).1) is_opened_for
        (carried (λ R K T W. ClaimHolds (setting r R T W) K (Refine ∷ []) (after_calls (setting r R T W) (Refine ∷ []) opened))
        (subst (λ (x : Room). ClaimHolds (code x) (kept a b c) (Refine ∷ []) (after_calls (code x) (Refine ∷ []) opened)) same s))

    -- whole settles
    pub settles : WholeSettles (code o) opened → (refined_for r lent).0 ≡ Whole → is_settled (setting_for r) (refined_for r lent).1 ≡ true
    settles s =
        subst (λ xs. WholeSettles (setting_for r) xs) is_opened_for
        (carried (λ R K T W. WholeSettles (setting r R T W) opened) (subst (λ (x : Room). WholeSettles (code x) opened) same s))

    -- refine
    pub is_refined : refinement (code o) opened ≡ refined_for r lent
    is_refined =
        ap (λ (x : Room). refinement (code x) opened) same
        ∙ carried (λ R K T W. refinement (code m) opened ≡ refinement (setting r R T W) opened) refl
        ∙ ap (refinement (setting_for r)) is_opened_for

    -- the sheet, read off records that are refined, in a room k that is m
    pub is_sheet : (k : Room) (xs : Records) (s : Sheet) → k ≡ m → xs ≡ (refined_for r lent).1
        → s.bound ≡ bound k.round.now.n k.width xs
        → s.refined ≡ (refined_for r lent).0
        → s.settled ≡ is_settled (setting k.round.now (side a b c) (late_of r) k.width) xs
        → s.musts ≡ musts k.round.now.n k.width xs
        → s ≡ sheet_of r lent
    is_sheet k xs s e f eb er es em =
        let ys = (refined_for r lent).1 in
        let eb' : s.bound ≡ bound r.n 16 ys = eb ∙ ap (λ (x : Room). bound x.round.now.n x.width xs) e ∙ ap (λ W. bound r.n W xs) wide ∙ ap (bound r.n 16) f in
        let es' : s.settled ≡ is_settled (setting_for r) ys =
        es
        ∙ ap (λ (x : Room). is_settled (setting x.round.now (side a b c) (late_of r) x.width) xs) e
        ∙ carried (λ R K T W. is_settled (setting r (side a b c) (late_of r) m.width) xs ≡ is_settled (setting r R (late_of r) W) xs) refl
        ∙ ap (is_settled (setting_for r)) f in
        let em' : s.musts ≡ musts r.n 16 ys = em ∙ ap (λ (x : Room). musts x.round.now.n x.width xs) e ∙ ap (λ W. musts r.n W xs) wide ∙ ap (musts r.n 16) f in
        λ i. record { bound = eb' i; refined = er i; settled = es' i; musts = em' i }
