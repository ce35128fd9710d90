use Rattle.std.proofs.Common.{◌≡◌}
use Rattle.packed.specs.Often.{asked_often}
use Rattle.packed.proofs.OnReads.{read-here}
use Rattle.packed.proofs.often.ask_often.Goals as goal

pub returns-in-Ok : goal.returns-in-Ok
returns-in-Ok c =
    read-here c.in-Ok.field-0 c.fresh-round.result c.read_bounded.new.round c.args.text.now
    (λ t. c.asked_on.result ≡ asked_often c.args.question c.args.width c.args.times t) c.in-Ok.ensures c.asked_on.ensures
