-- What is read of a text.
use Rattle.std.specs.Prelude.{◌≡◌, ◌<◌, ◌≤◌, ℕ, List, length, Ok, Err, Result}
use Rattle.round.specs.declared.table.Round.{Round}
use Rattle.text.specs.declared.refusal.Refusal.{Refusal}
use Rattle.text.specs.declared.refusal.Refusal.TheVariants.{TooLong}
use Rattle.text.specs.declared.fault.Fault.{Fault}
use Rattle.text.specs.Faults.{IsFault}
use Rattle.text.specs.Reading.{read_text}
use Rattle.text.specs.Rounds.{contents}

-- the round that the text holds, or why it is refused: a text above 16,384 bytes whatever it holds
abbrev pub IsRead : List ℕ → Result Round Refusal → Type 0
IsRead text (Ok round) = (length text ≤ 16384) × (read_text text ≡ Ok (contents round))
IsRead text (Err refusal) = (16384 < length text → refusal ≡ TooLong) × (length text ≤ 16384 → read_text text ≡ Err refusal)

-- what is said of the bytes is said of the text
pub record Suffices (text bytes : List ℕ) : Type 0 where
  pub round : (r : Result Round Refusal) → IsRead bytes r → IsRead text r
  pub fault : (x : Fault) → IsFault bytes x → IsFault text x
