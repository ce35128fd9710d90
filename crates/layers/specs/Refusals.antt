-- The number of each refusal, and the line that tells of it.
use Rattle.std.specs.Prelude.{ℕ, List, ◌∷◌, ◌++◌, codes, decimal}
use Rattle.layers.specs.declared.refusal.Refusal.{Refusal}
use Rattle.layers.specs.declared.refusal.Refusal.TheVariants.{Width, Short, NoLayer, NoNode, NoDoor, OneGroup, LayerFull, SameNode, Clash, SameDoor, WrongLength}

-- the number that a program prints, or a C function answers
abbrev pub number_of : Refusal → ℕ
number_of Width = 10
number_of Short = 11
number_of NoLayer = 20
number_of NoNode = 21
number_of NoDoor = 22
number_of OneGroup = 23
number_of LayerFull = 24
number_of SameNode = 25
number_of Clash = 26
number_of SameDoor = 27
number_of WrongLength = 28

-- its number, then line 0 and field 0, with tabs between: no line of a text is at fault
abbrev pub text_of : Refusal → List ℕ
text_of r = codes "refused" ++ (9 ∷ decimal (number_of r)) ++ codes "\t0\t0"
