-- What the program `sheet` makes of a text, over a list of records that it is lent, and what it prints of that.
use Rattle.std.specs.Prelude.{◌≡◌, ℕ, List, [], ◌∷◌, ◌++◌, Ok, Err, Result}
use Rattle.round.specs.declared.table.Round.{Round}
use Rattle.text.specs.Codes.{told}
use Rattle.text.specs.declared.refusal.Refusal.{Refusal}
use Rattle.round_sheet.specs.declared.sheet.Sheet.{Sheet}
use Rattle.round_sheet.specs.Claims.{SheetHolds}
use Rattle.round_sheet.specs.Sheets.{Records, refined_for, sheet_of}
use Rattle.round_sheet.specs.Texts.{sheet_text}
use Rattle.cli.specs.declared.output.Reply.{Reply}
use Rattle.cli.specs.declared.output.Status.TheVariants.{Answered, Refused}
use Rattle.cli.specs.Input.{IsRead}
use Rattle.cli.specs.Replies.{Prints}

-- s is the sheet of the round that the text holds, and what it claims of that round is so; the list has that round's refined records
pub record IsSheetIn (text : List ℕ) (lent left : Records) (s : Sheet) : Type 0 where
  pub round : Round
  pub read : IsRead text (Ok round)
  pub sheet : s ≡ sheet_of round lent
  pub holds : SheetHolds round s
  pub records : left ≡ (refined_for round lent).1

-- that sheet, or the refusal that reading the text gives, and then the list is as it was lent
abbrev pub IsMade : List ℕ → Records → Records → Result Sheet Refusal → Type 0
IsMade text lent left (Ok s) = IsSheetIn text lent left s
IsMade text lent left (Err e) = IsRead text (Err e) × (left ≡ lent)

-- the reply by what is made of the text: the text of the sheet, or the line of the refusal
abbrev pub RepliesBy : Result Sheet Refusal → Reply → Type 0
RepliesBy (Ok s) reply = Prints reply (sheet_text s.bound s.refined s.musts) [] Answered
RepliesBy (Err e) reply = Prints reply (told e ++ 10 ∷ []) [] Refused

-- the reply to the text
pub record RepliesTo (text : List ℕ) (lent left : Records) (reply : Reply) : Type 0 where
  pub made : Result Sheet Refusal
  pub is_made : IsMade text lent left made
  pub replies : RepliesBy made reply
