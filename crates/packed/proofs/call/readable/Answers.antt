use Rattle.std.proofs.Common.{◌≡◌, false, is_some, refl, ap, ◌∙◌, sym, arith}
use Rattle.std.proofs.lemmas.Grind.{common_steps}
use Rattle.packed.specs.Requests.{first_requests}
use Rattle.packed.proofs.Lists.{some_more, no_requests}
use Rattle.packed.proofs.call.readable.Goals as goal

pub loop-k-init : goal.loop-k-init
unfolding first_requests
loop-k-init c = refl

pub returns-then-is_none : goal.returns-then-is_none
returns-then-is_none c =
    let none : is_some c.call_at.result ≡ false = grind (arith, common_steps) in
    sym (no_requests c.args.bytes.now c.loop-k.k (ap is_some (sym c.call_at.ensures) ∙ none) c.loop-k-test.true)

pub loop-k-preserved : goal.loop-k-preserved
loop-k-preserved c = grind (arith, common_steps, some_more)
