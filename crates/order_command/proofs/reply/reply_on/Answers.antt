use Rattle.std.proofs.Common.{rules}
use Rattle.order_report.specs.Named.{NameOrder}
use Rattle.order_report.specs.Faults.{IsFirstFault}
use Rattle.order_report.specs.Reports.{Reports}
use Rattle.order_command.proofs.Told.{report_told, fault_told}
use Rattle.order_command.proofs.reply.reply_on.Goals as goal

pub returns-in-Err : goal.returns-in-Err
returns-in-Err c =
    let r = c.args.round.now in
    let words = c.args.words.now in
    let first : IsFirstFault r.n words c.in-Err.fault = search rules in
    fault_told r words _ c.in-Err.fault first (search rules)

pub returns : goal.returns
returns c =
    let r = c.args.round.now in
    let words = c.args.words.now in
    let w = c.as_slice.result.now in
    let p = c.in-Some.report in
    let named : NameOrder r words w = search rules in
    let reports : Reports r w p = search rules in
    report_told r words _ w p named reports (search rules)
