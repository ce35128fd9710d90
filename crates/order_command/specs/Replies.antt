-- What `order` replies to a text and words.
use Rattle.std.specs.Prelude.{ℕ, ◌⊎◌, List, [], ◌∷◌, ◌++◌, Ok, Err, Result, codes}
use Rattle.std.specs.Borrow.{Bor}
use Rattle.round.specs.declared.table.Round.{Round}
use Rattle.text.specs.declared.refusal.Refusal.{Refusal}
use Rattle.text.specs.Codes.{told}
use Rattle.order_report.specs.declared.named.OrderFault.{OrderFault}
use Rattle.order_report.specs.declared.report.Report.{Report}
use Rattle.order_report.specs.Named.{NameOrder}
use Rattle.order_report.specs.Faults.{IsFirstFault}
use Rattle.order_report.specs.FaultTexts.{fault_text}
use Rattle.order_report.specs.Reports.{Reports}
use Rattle.order_report.specs.Texts.{report_text}
use Rattle.cli.specs.declared.output.Reply.{Reply}
use Rattle.cli.specs.declared.output.Status.TheVariants.{Answered, Refused}
use Rattle.cli.specs.Input.{IsRead}
use Rattle.cli.specs.Replies.{Prints, error_line}

-- the words name an order of all the round's doors, and what is printed is a report on it
pub record ReportsOrder (r : Round) (words : List (Bor (List ℕ))) (reply : Reply) : Type 0 where
  pub order : List ℕ
  pub named : NameOrder r words order
  pub report : Report
  pub reports : Reports r order report
  pub prints : Prints reply (report_text report) [] Answered

-- the words have a fault, and their first is told on standard error
pub record TellsFault (r : Round) (words : List (Bor (List ℕ))) (reply : Reply) : Type 0 where
  pub fault : OrderFault
  pub first : IsFirstFault r.n words fault
  pub prints : Prints reply (codes "refused\torder\n") (error_line (fault_text fault)) Refused

-- the reply to words, of which r is the round
abbrev pub RepliesOn : Round → List (Bor (List ℕ)) → Reply → Type 0
RepliesOn r words reply = ReportsOrder r words reply ⊎ TellsFault r words reply

-- the reply by what is read of the text: that to the words, or the line of the text's refusal
abbrev pub RepliesBy : Result Round Refusal → List (Bor (List ℕ)) → Reply → Type 0
RepliesBy (Ok r) words reply = RepliesOn r words reply
RepliesBy (Err e) words reply = Prints reply (told e ++ 10 ∷ []) [] Refused

-- the reply to the text and the words
pub record RepliesTo (text : List ℕ) (words : List (Bor (List ℕ))) (reply : Reply) : Type 0 where
  pub read : Result Round Refusal
  pub is_read : IsRead text read
  pub replies : RepliesBy read words reply
