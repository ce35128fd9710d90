-- Flaws that the bytes of a field show, in words, and what to do about them.
use Rattle.std.specs.Prelude.{ℕ, List, [], ◌∷◌, codes, Option, Some, None}
use Rattle.text.specs.declared.fault.Due as dues
use Rattle.text.specs.declared.fault.Due.TheVariants as due
use Rattle.text.specs.declared.flaw.Flaw as flaws
use Rattle.text.specs.declared.flaw.Flaw.TheVariants as flaw
use Rattle.advice.specs.Parts.{joined_text}

-- nothing stands where a line's kind is due, in a line with a wrong count of fields, or in one with the right count
abbrev pub empty_text : dues.Due → List ℕ
empty_text (due.Line s) = codes "an empty line, or a tab at the start of the line"
empty_text (due.Fields k least most) = codes "an empty field (two tabs in a row, or a tab at the end of the line)"
empty_text d = codes "nothing stands in the field"

-- a blank stands between what should be fields, or in a field
abbrev pub blank_text : dues.Due → List ℕ
blank_text (due.Line s) = codes "a blank, where tabs stand between fields"
blank_text (due.Fields k least most) = codes "a blank, where tabs stand between fields"
blank_text d = codes "a blank in the field"

-- what the flaw is, by what is due
abbrev pub flaw_text : dues.Due → flaws.Flaw → List ℕ
flaw_text d flaw.ByteOrderMark = codes "a byte order mark (\\xef\\xbb\\xbf)"
flaw_text d flaw.Utf16 = codes "the text is in UTF-16, or is no text"
flaw_text d flaw.CarriageReturn = codes "a carriage return (\\r), which belongs to line ends of another system"
flaw_text d flaw.Blank = blank_text d
flaw_text d flaw.NotAscii = codes "a byte that is no ASCII (a minus, a blank or a letter of another kind)"
flaw_text d flaw.Empty = empty_text d
flaw_text d flaw.LeadingZero = codes "a zero in front of another digit"
flaw_text d flaw.Sign = codes "a sign in front"
flaw_text d flaw.Point = codes "a point or a comma"
flaw_text d flaw.Capital = codes "a capital letter"

-- what to do where nothing stands
abbrev pub empty_fix : dues.Due → List ℕ
empty_fix (due.Line s) = codes "take out the empty line, or the tab at its start"
empty_fix (due.Fields k least most) = codes "put one tab between each two fields, and none at the end of the line"
empty_fix d = codes "write it there, or take out the tab in front of it if that is one too many"

-- what to do about a blank
abbrev pub blank_fix : dues.Due → List ℕ
blank_fix (due.Line s) = codes "put a tab between each two fields, and no blank anywhere"
blank_fix (due.Fields k least most) = codes "put a tab between each two fields, and no blank anywhere"
blank_fix d = codes "take out the blank"

-- what to do about the form of a line's kind
abbrev pub kind_fix : flaws.Flaw → List ℕ
kind_fix flaw.NotAscii = codes "write plain letters, digits, \"-\" and tabs alone"
kind_fix flaw.Point = codes "put tabs between the fields, with no point and no comma"
kind_fix w = codes "begin the line with the word for its kind, in small letters"

-- what to do about what is no digit in a number
abbrev pub digits_fix : dues.Due → List ℕ
digits_fix (due.Change j) =
    codes "write plain digits alone, with a plain \"-\" in front if the number is below 0"
digits_fix d = codes "write plain digits alone"

-- what to do about the form of a number
abbrev pub number_fix : dues.Due → flaws.Flaw → List ℕ
number_fix d flaw.LeadingZero = codes "leave out every zero in front of the number"
number_fix d flaw.Sign = codes "leave out the sign"
number_fix d flaw.Point = codes "write a whole number, with no point and no comma"
number_fix d w = digits_fix d

-- what to do about the form of what stands where a line's kind, a "-" or a number is due
abbrev pub form_fix : dues.Due → flaws.Flaw → List ℕ
form_fix (due.Line s) w = kind_fix w
form_fix (due.Dash from) w = codes "write a plain \"-\" alone"
form_fix d w = number_fix d w

-- what to do about the flaw, by what is due
abbrev pub fix_text : dues.Due → flaws.Flaw → List ℕ
fix_text d flaw.ByteOrderMark =
    codes "take it out; at the start of a text, save it as UTF-8 without a byte order mark"
fix_text d flaw.Utf16 = codes "save the text as UTF-8 without a byte order mark"
fix_text d flaw.CarriageReturn =
    codes "save the text with Unix line ends, so that a line feed alone ends each line"
fix_text d flaw.Blank = blank_fix d
fix_text d flaw.Empty = empty_fix d
fix_text d w = form_fix d w

-- the lines that tell of a flaw
abbrev pub flaw_lines : dues.Due → Option flaws.Flaw → List ℕ
flaw_lines d (Some w) =
    joined_text (codes "flaw: " ∷ flaw_text d w ∷ codes "\nfix: " ∷ fix_text d w ∷ codes "\n" ∷ [])
flaw_lines d None = []
