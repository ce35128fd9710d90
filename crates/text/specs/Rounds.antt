-- What reading does to a round.
use Rattle.std.specs.Prelude.{◌≡◌, ℕ, ◌<◌, ◌≤◌, List, length, Ok, Err, Result}
use Rattle.round.specs.declared.table.Round.{Round}
use Rattle.text.specs.declared.refusal.Refusal.{Refusal}
use Rattle.text.specs.declared.refusal.Refusal.TheVariants.{TooLong}
use Rattle.text.specs.declared.draft.Draft.{Draft}
use Rattle.text.specs.Reading.{read_text}
use Rattle.text.specs.Form.{HasForm}

-- what a round holds
abbrev pub contents : Round → Draft
contents r = record {
  n = r.n;
  load = r.load;
  cap = r.cap;
  grid = r.grid;
  doors = r.doors;
  drives = r.drives;
  ahead = r.ahead;
  keepers = r.keepers;
}

-- an accepted text is written whole, and a refusal alters nothing
abbrev pub Reads : {A : Type 0} → Result A Refusal → Round → Round → List ℕ → Type 0
Reads (Ok u) was is text = read_text text ≡ Ok (contents is)
Reads (Err e) was is text = (read_text text ≡ Err e) × (is ≡ was)

-- what is accepted is what has the form of a round's text, and nothing else
abbrev pub Accepts : {A : Type 0} → Result A Refusal → Round → List ℕ → Type 0
Accepts (Ok u) is text = HasForm text (contents is)
Accepts (Err e) is text = (d : Draft) → ¬ HasForm text d

-- a text above 16,384 bytes is refused, and any other is read
abbrev pub Bounded : {A : Type 0} → Result A Refusal → Round → Round → List ℕ → Type 0
Bounded r was is text =
    (16384 < length text → (r ≡ Err TooLong) × (is ≡ was))
    × (length text ≤ 16384 → Reads r was is text × Accepts r is text)
