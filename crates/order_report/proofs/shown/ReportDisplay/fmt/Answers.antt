use Rattle.std.proofs.Common.{rules, arith, length, ap, ◌++◌, List, ℕ}
use Rattle.std.proofs.lemmas.Grind.{common_steps, put_two}
use Rattle.std.proofs.lemmas.Slice.Zip.{zip_turn, zip_end}
use Rattle.order_report.specs.Texts.{finish_line, closing_lines}
use Rattle.order_report.proofs.Lines.{lines, lines_more, lines_all}
use Rattle.order_report.proofs.shown.ReportDisplay.fmt.Goals as goal

pub loop-door-preserved : goal.loop-door-preserved
loop-door-preserved g c =
    let ks = c.args.self.now.doors.now in
    let vs = c.args.self.now.finishes.items in
    let xs = c.loop-door.yielded in
    let door = c.in-Some.door in
    let minute = c.in-Some.minute in
    let turn = zip_turn ks vs xs c.into_iter-door-iterator.result c.loop-door.door-iterator c.next.new.self c.next.result (search rules) (search rules) c.loop-door.yielded_by (door, minute) c.in-Some.is c.next.ensures.steps in
    let more = lines_more ks vs xs (door, minute) door.now minute.now turn.0 turn.1 (turn.2 0) (turn.3 0) in
    λ p. put_two g.W.Write.write_str_gives c.args.f.now c.loop-door.f c.write.new.self (lines ks vs (length xs)) (finish_line (door.now, minute.now)) _ (c.loop-door.invariant p) (grind (arith, common_steps)) more

pub returns-clause-writes : goal.returns-clause-writes
returns-clause-writes g c =
    let ks = c.args.self.now.doors.now in
    let vs = c.args.self.now.finishes.items in
    let xs = c.loop-door.yielded in
    let long = zip_end ks vs xs c.into_iter-door-iterator.result c.loop-door.door-iterator c.next.new.self c.next.result (search rules) (search rules) c.loop-door.yielded_by c.in-None.is c.next.ensures.steps in
    let all = ap (λ (t : List ℕ). t ++ closing_lines c.args.self.now) (lines_all ks vs (length xs) long) in
    λ p ok. put_two g.W.Write.write_str_gives c.args.f.now c.loop-door.f c.write-2.new.self (lines ks vs (length xs)) (closing_lines c.args.self.now) _ (c.loop-door.invariant p) (grind (arith, common_steps)) all
