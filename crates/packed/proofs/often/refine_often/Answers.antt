use Rattle.std.proofs.Common.{◌≡◌}
use Rattle.packed.specs.Often.{often_of}
use Rattle.packed.proofs.OnReads.{read-here}
use Rattle.packed.proofs.often.refine_often.Goals as goal

pub returns-in-Ok : goal.returns-in-Ok
returns-in-Ok c =
    read-here c.in-Ok.field-0 c.fresh-round.result c.read_bounded.new.round c.args.text.now
    (λ t. c.often_on.result ≡ often_of c.args.width c.args.times t) c.in-Ok.ensures c.often_on.ensures
