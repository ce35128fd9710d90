-- Why words name no order of all of a round's doors.
use Rattle.std.specs.Prelude.{◌≡◌, ℕ, ◌<◌, ◌≤◌, List, ◌∷◌, ◌++◌}
use Rattle.std.specs.Borrow.{Bor}
use Rattle.doors.specs.Orders.{IsDoor, IsPartOrder, StandsIn}
use Rattle.order_report.specs.Named.{IsNoDoorText, NameDoors}
use Rattle.order_report.specs.declared.named.OrderFault as faults
use Rattle.order_report.specs.declared.named.OrderFault.TheVariants.{NoDoor, Twice, Missing}

-- the first of the words that is none of the doors 1 to n
pub record IsFirstStray (n : ℕ) (words : List (Bor (List ℕ))) (word : Bor (List ℕ)) : Type 0 where
  pub ahead : List (Bor (List ℕ))
  pub rest : List (Bor (List ℕ))
  pub split : words ≡ ahead ++ word ∷ rest
  pub named : (w : List ℕ) × NameDoors n ahead w
  pub stray : IsNoDoorText n word.now

-- the first door of w that repeats an earlier one
pub record IsFirstRepeat (n : ℕ) (w : List ℕ) (j : ℕ) : Type 0 where
  pub ahead : List ℕ
  pub rest : List ℕ
  pub split : w ≡ ahead ++ j ∷ rest
  pub part : IsPartOrder n ahead
  pub again : StandsIn j ahead

-- the least of the doors 1 to n that w lacks, which has none twice
pub record IsLeastMissing (n : ℕ) (w : List ℕ) (j : ℕ) : Type 0 where
  pub part : IsPartOrder n w
  pub door : IsDoor n j
  pub lacks : ¬ StandsIn j w
  pub least : (k : ℕ) → 1 ≤ k → k < j → StandsIn k w

-- a word that is no door is looked for first, then a door that comes twice, then one that is missing
abbrev pub IsFirstFault : ℕ → List (Bor (List ℕ)) → faults.OrderFault → Type 0
IsFirstFault n words (NoDoor word most) = IsFirstStray n words word × (most ≡ n)
IsFirstFault n words (Twice j) = (w : List ℕ) × NameDoors n words w × IsFirstRepeat n w j
IsFirstFault n words (Missing j) = (w : List ℕ) × NameDoors n words w × IsLeastMissing n w j
