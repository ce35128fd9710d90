-- What `view` replies to a text, and what it leaves of the lent list.
use Rattle.std.specs.Prelude.{◌≡◌, ℕ, List, [], ◌∷◌, ◌++◌, Option, None, Some, Ok, Err, Result}
use Rattle.round.specs.declared.table.Round.{Round}
use Rattle.text.specs.declared.refusal.Refusal.{Refusal}
use Rattle.text.specs.Codes.{told}
use Rattle.layers.specs.declared.refusal.Refusal as unable
use Rattle.layers.specs.Calls.{layer_answer}
use Rattle.layers.specs.Refusals.{text_of}
use Rattle.round_sheet.specs.Sheets.{Records, refined_for}
use Rattle.picture.specs.Pictures.{picture_text}
use Rattle.picture.specs.Tables.{table_text}
use Rattle.cli.specs.declared.output.Reply.{Reply}
use Rattle.cli.specs.declared.output.Status.TheVariants.{Answered, Refused}
use Rattle.cli.specs.Input.{IsRead}
use Rattle.cli.specs.Replies.{Prints}

-- the table of a layer with these nodes, or the line of the refusal of a layer that there is not
abbrev pub ShowsLayer : Result Records unable.Refusal → Reply → Type 0
ShowsLayer (Ok nodes) reply = Prints reply (table_text nodes) [] Answered
ShowsLayer (Err e) reply = Prints reply (text_of e ++ 10 ∷ []) [] Refused

-- of the diagram of n doors and width W in the records xs the picture, or the layer that is asked for
abbrev pub Shows : ℕ → ℕ → Option ℕ → Records → Reply → Type 0
Shows n W None xs reply = Prints reply (picture_text n W xs) [] Answered
Shows n W (Some i) xs reply = ShowsLayer (layer_answer n W i xs) reply

-- the reply by what is read of the text: of the diagram that is refined on the lent list, or the line of the text's refusal
abbrev pub RepliesBy : Result Round Refusal → Option ℕ → Records → Reply → Type 0
RepliesBy (Ok r) layer lent reply = Shows r.n 16 layer (refined_for r lent).1 reply
RepliesBy (Err e) layer lent reply = Prints reply (told e ++ 10 ∷ []) [] Refused

-- the reply to the text, and to the layer that is asked for, if one is
pub record RepliesTo (text : List ℕ) (layer : Option ℕ) (lent : Records) (reply : Reply) : Type 0 where
  pub read : Result Round Refusal
  pub is_read : IsRead text read
  pub replies : RepliesBy read layer lent reply

-- the list by what is read of the text: the records of that diagram, or as it was lent
abbrev pub records_by : Result Round Refusal → Records → Records
records_by (Ok r) lent = (refined_for r lent).1
records_by (Err e) lent = lent

-- the list after the reply to the text
pub record LeavesRecords (text : List ℕ) (lent left : Records) : Type 0 where
  pub read : Result Round Refusal
  pub is_read : IsRead text read
  pub records : left ≡ records_by read lent
