use Rattle.std.proofs.Common.{◌≡◌, ℕ, ◌≤◌, List, length, Ok, Result, IfOk, arith}
use Rattle.std.proofs.lemmas.Grind.{common_steps}
use Rattle.round.specs.declared.table.Round.{Round}
use Rattle.text.specs.declared.refusal.Refusal.{Refusal as TextRefusal}
use Rattle.packed.specs.Sheets.{sheet_of, byte_count, written}
use Rattle.packed.proofs.OnReads.{read-here}
use Rattle.packed.proofs.sheet.sheet.Goals as goal

-- as many bytes as are written stand in the list that is lent
within-count : (width : ℕ) (calls : List ℕ) (room : ℕ) (t : Result Round TextRefusal) → IfOk (byte_count (sheet_of width calls room t)) (λ k. k ≤ room)
within-count width calls room t = grind (arith, common_steps)

pub returns-in-Ok-clause-within : goal.returns-in-Ok-clause-within
returns-in-Ok-clause-within c =
    rw c.sheet_on.ensures.answer (within-count c.args.width c.args.calls.now (length c.args.out.now) (Ok c.read_bounded.new.round))

pub returns-in-Ok-clause-answer : goal.returns-in-Ok-clause-answer
returns-in-Ok-clause-answer c =
    read-here c.in-Ok.field-0 c.fresh-round.result c.read_bounded.new.round c.args.text.now
    (λ t. c.sheet_on.result ≡ byte_count (sheet_of c.args.width c.args.calls.now (length c.args.out.now) t)) c.in-Ok.ensures c.sheet_on.ensures.answer

pub returns-in-Ok-clause-out : goal.returns-in-Ok-clause-out
returns-in-Ok-clause-out c =
    read-here c.in-Ok.field-0 c.fresh-round.result c.read_bounded.new.round c.args.text.now
    (λ t. c.sheet_on.new.out ≡ written (sheet_of c.args.width c.args.calls.now (length c.args.out.now) t) c.args.out.now) c.in-Ok.ensures c.sheet_on.ensures.out
