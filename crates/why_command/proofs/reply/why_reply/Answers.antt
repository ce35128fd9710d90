use Rattle.std.proofs.Common.{rules}
use Rattle.outlook.specs.Outlooks.{Tells}
use Rattle.why_command.proofs.Outlooks.{outlook_told}
use Rattle.why_command.proofs.reply.why_reply.Goals as goal

pub returns-in_ok-of-in-Ok : goal.returns-in_ok-of-in-Ok
returns-in_ok-of-in-Ok c =
    let r = c.in-Ok.round in
    let o = c.in_ok-of-in-Ok.field-0 in
    let tells : Tells r o = search rules in
    outlook_told c.args.text.now r o _ c.in-Ok.ensures tells (search rules)
