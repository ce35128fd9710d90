-- Replies to words, by what they name.
use Rattle.std.proofs.Common.{ℕ, List, [], ◌∷◌, ◌++◌, Ok, Err, Result, IfOk, codes, inl, inr}
use Rattle.std.specs.Borrow.{Bor}
use Rattle.round.specs.declared.table.Round.{Round}
use Rattle.order_report.specs.declared.named.OrderFault.{OrderFault}
use Rattle.order_report.specs.declared.report.Report.{Report}
use Rattle.order_report.specs.Named.{NameOrder}
use Rattle.order_report.specs.Faults.{IsFirstFault}
use Rattle.order_report.specs.FaultTexts.{fault_text}
use Rattle.order_report.specs.Reports.{Reports}
use Rattle.order_report.specs.Texts.{report_text}
use Rattle.cli.specs.declared.output.Reply.{Reply}
use Rattle.cli.specs.declared.output.Status.TheVariants.{Answered, Refused}
use Rattle.cli.specs.Replies.{Prints, error_line}
use Rattle.order_command.specs.Replies.{RepliesOn}

module _ {E : Type 0} (r : Round) (words : List (Bor (List ℕ))) (result : Result Reply E) where
  -- what is printed of a report on the order that they name
  pub report_told : (w : List ℕ) (p : Report) → NameOrder r words w → Reports r w p
      → IfOk result (λ reply. Prints reply (report_text p) [] Answered) → IfOk result (RepliesOn r words)
  report_told w p named reports = by_result result
    where
      by_result : (x : Result Reply E) → IfOk x (λ reply. Prints reply (report_text p) [] Answered) → IfOk x (RepliesOn r words)
      by_result (Ok reply) prints = inl (record { order = w; named = named; report = p; reports = reports; prints = prints })
      by_result (Err e) prints = tt

  -- what is told of their first fault
  pub fault_told : (fault : OrderFault) → IsFirstFault r.n words fault
      → IfOk result (λ reply. Prints reply (codes "refused\torder" ++ 10 ∷ []) (error_line (fault_text fault)) Refused) → IfOk result (RepliesOn r words)
  fault_told fault first = by_result result
    where
      by_result : (x : Result Reply E) → IfOk x (λ reply. Prints reply (codes "refused\torder" ++ 10 ∷ []) (error_line (fault_text fault)) Refused) → IfOk x (RepliesOn r words)
      by_result (Ok reply) prints = inr (record { fault = fault; first = first; prints = prints })
      by_result (Err e) prints = tt
