-- Replies that tell of an outlook.
use Rattle.std.proofs.Common.{ℕ, List, [], Ok, Err, Result, IfOk, inl}
use Rattle.round.specs.declared.table.Round.{Round}
use Rattle.outlook.specs.declared.outlook.Outlook.{Outlook}
use Rattle.outlook.specs.Outlooks.{Tells}
use Rattle.outlook.specs.Texts.{outlook_text}
use Rattle.cli.specs.declared.output.Reply.{Reply}
use Rattle.cli.specs.declared.output.Status.TheVariants.{Answered}
use Rattle.cli.specs.Input.{IsRead}
use Rattle.cli.specs.Replies.{Prints}
use Rattle.why_command.specs.Replies.{RepliesTo}

-- what is printed of an outlook on the text's round is a reply to the text
pub outlook_told : {E : Type 0} (text : List ℕ) (r : Round) (o : Outlook) (result : Result Reply E) → IsRead text (Ok r) → Tells r o
    → IfOk result (λ reply. Prints reply (outlook_text o) [] Answered) → IfOk result (RepliesTo text)
outlook_told text r o (Ok reply) read tells prints = inl (record { round = r; is_read = read; outlook = o; tells = tells; prints = prints })
outlook_told text r o (Err e) read tells prints = tt
