use Rattle.std.proofs.Common.{◌<◌, length, ◌∙◌, sym, pow_pos, arith}
use Rattle.std.proofs.lemmas.Bool.{false≢true, eqb-true, eq-eqb}
use Rattle.doors.proofs.Sets.{has-false}
use Rattle.outlook.proofs.KeptSets.{last-has, front-keeps, front-ahead, keeps-more}
use Rattle.outlook.proofs.load_orders.can_be_last.Goals as goal

pub returns-then-not-contains : goal.returns-then-not-contains
returns-then-not-contains c =
    let a = c.args in (
      λ t. absurd (false≢true t),
      λ b. absurd (has-false a.set a.j (sym c.contains.ensures ∙ c.if-not-contains.true) (last-has a.round.now a.ahead.now a.set b.0 a.j b.1)),
    )

pub returns-then-kept-rest : goal.returns-then-kept-rest
returns-then-kept-rest c =
    let a = c.args in
    let rest = c.without-rest.result in let sum = c.without-rest.ensures.sum in
    let below : rest < length a.kept.now = omega (arith, c.requires.below, sum, pow_pos a.j) in (
      λ t.
          let k = (c.requires.kept rest below).0 c.if-kept-rest.true in
          let gone = has-false rest a.j c.without-rest.ensures.gone in
          (k.0, keeps-more a.round.now a.ahead.now a.set k.0 a.j rest sum k.1 c.requires.door gone (eqb-true _ _ t) c.requires.fits),
      λ b. eq-eqb _ _ (front-ahead a.round.now a.ahead.now a.set b.0 a.j rest sum b.1),
    )

pub returns-else-kept-rest : goal.returns-else-kept-rest
returns-else-kept-rest c =
    let a = c.args in
    let rest = c.without-rest.result in let sum = c.without-rest.ensures.sum in
    let below : rest < length a.kept.now = omega (arith, c.requires.below, sum, pow_pos a.j) in (
      λ t. absurd (false≢true (sym c.if-kept-rest.false ∙ t)),
      λ b. (c.requires.kept rest below).1 (b.0, front-keeps a.round.now a.ahead.now a.set b.0 a.j rest sum b.1),
    )
