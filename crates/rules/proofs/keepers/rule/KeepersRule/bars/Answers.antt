use Rattle.std.proofs.Common.{◌≡◌, ℕ, ◌≤◌, not, ◌&&◌, ◌==◌, ◌^◌, bit_and, bit_or, slice_index, sym, ◌∙◌, arith}
use Rattle.std.proofs.lemmas.Bool.{eq-eqb, ne_eqb}
use Rattle.doors.proofs.Orders.{is-door}
use Rattle.rules.specs.declared.keepers.Keepers.{Keepers}
use Rattle.rules.specs.Keepers.{repeats_keeper}
use Rattle.rules.specs.KeepersLaws.{bars_by_masks}
use Rattle.doors.specs.Orders.{is_door}
use Rattle.rules.proofs.keepers.rule.KeepersRule.bars.Goals as goal
use Rattle.std.specs.Prelude.{true, ◌<◌}

-- what the rule answers of a door of the round, by its set
by-masks : (k : Keepers) (s j : ℕ) → s < 2 ^ 32 → is_door k.round.now.n j ≡ true → let p = slice_index k.others j in repeats_keeper k.round.now.n k.round.now.keepers s j ≡ (not (bit_and s p == 0) && bit_and s (bit_or p (2 ^ j)) == s)
by-masks k s j fits e =
    let door : j ≤ 16 = omega (arith, (is-door k.round.now.n j e).high, k.round.now.most) in
    rw e (bars_by_masks k.round.now.keepers s (slice_index k.others j) j fits (λ i. k.told i j door))

pub returns-then-s-others-ne0 : goal.returns-then-s-others-ne0
returns-then-s-others-ne0 c =
    let k = c.args.self.now in
    let e = sym c.has_door.ensures ∙ c.if-not-has_door.false in
    let door : c.args.j ≤ 16 = omega (arith, (is-door k.round.now.n c.args.j e).high, k.round.now.most) in
    let some = ne_eqb _ 0 c.if-s-others-ne0.true in
    rw (c.with.ensures.added (omega arith)) (sym (rw some at (by-masks k c.args.s c.args.j c.ranges.s.fits e)))

pub returns-else-s-others-ne0 : goal.returns-else-s-others-ne0
returns-else-s-others-ne0 c =
    let e = sym c.has_door.ensures ∙ c.if-not-has_door.false in
    let none = eq-eqb _ 0 c.if-s-others-ne0.false in
    rw none (sym (rw none at (by-masks c.args.self.now c.args.s c.args.j c.ranges.s.fits e)))
