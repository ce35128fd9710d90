-- The number of each refusal.
use Rattle.std.specs.Prelude.{ℕ}
use Rattle.layers.specs.Refusals.{number_of as diagram_number_of}
use Rattle.text.specs.Codes.{number_of as text_number_of}
use Rattle.packed.specs.declared.refusal.Refusal.{Refusal}
use Rattle.packed.specs.declared.refusal.Refusal.TheVariants.{Text, Diagram, Calls, Short}

-- those of a text and of a diagram are the reader's and the diagram's own; no call on a diagram has one from 100 on
abbrev pub number_of : Refusal → ℕ
number_of (Text e) = text_number_of e
number_of (Diagram e) = diagram_number_of e
number_of Calls = 100
number_of Short = 101
