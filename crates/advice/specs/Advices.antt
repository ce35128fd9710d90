-- The lines that tell of a fault.
use Rattle.std.specs.Prelude.{ℕ, List, [], ◌∷◌, codes}
use Rattle.text.specs.Codes.{told}
use Rattle.text.specs.declared.fault.Fault.{Fault}
use Rattle.advice.specs.Parts.{joined_text}
use Rattle.advice.specs.Wrong.{where_text, wrong_text}
use Rattle.advice.specs.Expected.{expected_text}
use Rattle.advice.specs.Found.{found_text}
use Rattle.advice.specs.Flaws.{flaw_lines}
use Rattle.advice.specs.Write.{write_lines}

-- the refusal, then where and what is wrong
abbrev pub wrong_lines : Fault → List ℕ
wrong_lines f =
    joined_text (told f.refusal ∷ codes "\n"
    ∷ where_text f.refusal ∷ codes ": " ∷ wrong_text f.refusal f.due f.found ∷ codes "\n" ∷ [])

-- what is expected there, and what is found
abbrev pub found_lines : Fault → List ℕ
found_lines f =
    joined_text (codes "expected: " ∷ expected_text f.due
    ∷ codes "\nfound: " ∷ found_text f.found ∷ codes "\n" ∷ [])

-- these lines, the flaw, if there is one, and what to write
abbrev pub advice_text : Fault → List ℕ
advice_text f = joined_text (wrong_lines f ∷ found_lines f ∷ flaw_lines f.due f.flaw ∷ write_lines f.due ∷ [])
