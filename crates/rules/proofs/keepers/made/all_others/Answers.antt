use Rattle.std.proofs.Common.{◌∙◌, ⊎_elim, arith, length-set}
use Rattle.std.proofs.lemmas.Bool.{cases_eq}
use Rattle.std.proofs.lemmas.Grind.{get_or-set_at}
use Rattle.std.proofs.lemmas.List.{get_or-set_other}
use Rattle.rules.proofs.keepers.made.all_others.Goals as goal

pub loop-j-preserved : goal.loop-j-preserved
loop-j-preserved c =
    let others = c.loop-j.others in
    let j = c.loop-j.j in
    let set = c.others_of.result in
    let before = c.loop-j.invariant in (
      length-set others j set ∙ before.0,
      λ i k l. ⊎_elim
          (λ e. rw (get_or-set_at others j k set 0 e (omega (arith, before.0, c.loop-j-test.true)), e) (c.others_of.ensures i))
          (λ n. rw (get_or-set_other others j k set 0 n) (before.1 i k (omega arith))) (cases_eq k j),
    )

pub returns : goal.returns
returns c i j l = c.loop-j.invariant.1 i j (omega (arith, c.loop-j-test.false))
