use Rattle.std.proofs.Common.{◌≡◌, ℕ, ◌<◌, Bool, true, false, not, Option, Some, None, sym, ap, ◌∙◌}
use Rattle.std.specs.Option.{MatchOption, is_some}
use Rattle.layers.specs.Settings.{lent_setting}
use Rattle.labels.specs.Passes.{arrivals}
use Rattle.split.specs.Listed.{written}
use Rattle.split.proofs.Checks.{none-agree}
use Rattle.split.proofs.InArcs.{not-not}
use Rattle.split.proofs.Meets.{stay-said}
use Rattle.split.proofs.agreement.alike.Goals as goal

by-case : (o : Option ℕ) (b : Bool) (P Q : ℕ → Type 0) → MatchOption o (b ≡ true) (λ m. (m < 2048) × P m × (b ≡ false) × Q m) → not (is_some o) ≡ b
by-case None b P Q e = sym e
by-case (Some m) b P Q e = sym e.2

pub returns-in-None : goal.returns-in-None
returns-in-None g c tally =
    let by = lent_setting c.args.by.now (g.R.Rule.sense c.args.by.now.rule.now) tally in
    sym (none-agree by (arrivals by c.args.t (written c.args.us.now c.args.list.now)) (c.in-None.ensures by))

pub returns-in-Some : goal.returns-in-Some
returns-in-Some g c tally =
    let by = lent_setting c.args.by.now (g.R.Rule.sense c.args.by.now.rule.now) tally in
    let said = stay-said by (g.met.R.Rule.reflexive c.args.by.now.rule.now) (written c.args.us.now c.args.list.now) c.in-Some.first c.args.t c.requires.one_le_t c.requires.listed.wide (c.in-Some.ensures by) in
    let flip : c.is_none.result ≡ not (is_some c.first_leaving.result) = sym (not-not c.is_none.result) ∙ ap not (sym c.is_none.ensures) in
    flip ∙ by-case c.first_leaving.result _ _ _ c.first_leaving.ensures ∙ said
