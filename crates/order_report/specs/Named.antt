-- Doors that are named by words.
use Rattle.std.specs.Prelude.{◌≡◌, ℕ, List, decimal}
use Rattle.std.specs.Borrow.{Bor}
use Rattle.std.specs.List.{AllZip}
use Rattle.doors.specs.Orders.{IsDoor}
use Rattle.round.specs.declared.table.Round.{Round}
use Rattle.allowed.specs.Orders.{IsFullOrder}

-- the text is the number j in digits, and j is one of the doors 1 to n
pub record IsDoorText (n : ℕ) (text : List ℕ) (j : ℕ) : Type 0 where
  pub door : IsDoor n j
  pub digits : text ≡ decimal j

-- the text is that of no door
abbrev pub IsNoDoorText : ℕ → List ℕ → Type 0
IsNoDoorText n text = (j : ℕ) → ¬ IsDoorText n text j

-- the words name the doors of w, one each
abbrev pub NameDoors : ℕ → List (Bor (List ℕ)) → List ℕ → Type 0
NameDoors n words w = AllZip (λ word. IsDoorText n word.now) words w

-- the words name the doors of w, which has each door of the round once
pub record NameOrder (r : Round) (words : List (Bor (List ℕ))) (w : List ℕ) : Type 0 where
  pub doors : NameDoors r.n words w
  pub full : IsFullOrder r w
