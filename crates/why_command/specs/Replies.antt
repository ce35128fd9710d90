-- What `why` replies to a text.
use Rattle.std.specs.Prelude.{ℕ, ◌⊎◌, List, [], Ok}
use Rattle.round.specs.declared.table.Round.{Round}
use Rattle.text.specs.declared.fault.Fault.{Fault}
use Rattle.text.specs.Faults.{IsFault}
use Rattle.advice.specs.Advices.{advice_text}
use Rattle.outlook.specs.declared.outlook.Outlook.{Outlook}
use Rattle.outlook.specs.Outlooks.{Tells}
use Rattle.outlook.specs.Texts.{outlook_text}
use Rattle.cli.specs.declared.output.Reply.{Reply}
use Rattle.cli.specs.declared.output.Status.TheVariants.{Answered, Refused}
use Rattle.cli.specs.Input.{IsRead}
use Rattle.cli.specs.Replies.{Prints}

-- the text holds a round, and what is printed is an outlook on it
pub record TellsOutlook (text : List ℕ) (reply : Reply) : Type 0 where
  pub round : Round
  pub is_read : IsRead text (Ok round)
  pub outlook : Outlook
  pub tells : Tells round outlook
  pub prints : Prints reply (outlook_text outlook) [] Answered

-- the text is refused, and what is printed is the advice on its fault
pub record Advises (text : List ℕ) (reply : Reply) : Type 0 where
  pub fault : Fault
  pub is_fault : IsFault text fault
  pub prints : Prints reply (advice_text fault) [] Refused

-- the reply to the text
abbrev pub RepliesTo : List ℕ → Reply → Type 0
RepliesTo text reply = TellsOutlook text reply ⊎ Advises text reply
