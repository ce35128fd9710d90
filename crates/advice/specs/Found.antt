-- What is found where a text is at fault, in words.
use Rattle.std.specs.Prelude.{ℕ, false, ◌-◌, ◌/◌, ◌%◌, List, [], ◌∷◌, ◌++◌, take, length, codes, decimal, ◌==◌, ◌&&◌, nat_le, if◌then◌else◌}
use Rattle.std.specs.List.{flat_map}
use Rattle.std.specs.Fmt.{digits}
use Rattle.advice.specs.Parts.{joined_text}
use Rattle.text.specs.declared.fault.Found as founds
use Rattle.text.specs.declared.fault.Found.TheVariants as found

-- a count of fields
abbrev pub count_text : ℕ → List ℕ
count_text k = if k == 1 then codes "1 field" else decimal k ++ codes " fields"

-- a byte by its two digits in base 16
abbrev pub hex_text : ℕ → List ℕ
hex_text b = joined_text (codes "\\x" ∷ digits 16 false (b / 16) ∷ digits 16 false (b % 16) ∷ [])

-- a byte: printable ASCII as it is, all else escaped
abbrev pub byte_text : ℕ → List ℕ
byte_text b =
    if b == 9 then codes "\\t"
    else if b == 10 then codes "\\n"
    else if b == 13 then codes "\\r"
    else if b == 34 then codes "\\\""
    else if b == 92 then codes "\\\\"
    else if nat_le 32 b && nat_le b 126 then b ∷ []
    else hex_text b

-- these bytes
abbrev pub bytes_text : List ℕ → List ℕ
bytes_text bs = flat_map byte_text bs

-- how many bytes more there are
abbrev pub more_text : ℕ → List ℕ
more_text k =
    if k == 0 then []
    else if k == 1 then codes " and 1 byte more"
    else codes " and " ++ decimal k ++ codes " bytes more"

-- bytes between double quotes, of more than 40 the first 40 alone
abbrev pub quoted_text : List ℕ → List ℕ
quoted_text bs = joined_text (codes "\"" ∷ bytes_text (take 40 bs) ∷ codes "\"" ∷ more_text (length bs - 40) ∷ [])

-- what is found
abbrev pub found_text : founds.Found → List ℕ
found_text (found.Field bs) = quoted_text bs.now
found_text (found.Fields k) = count_text k
found_text found.End = codes "the end of the text"
found_text (found.Unended bs) = quoted_text bs.now ++ codes ", with no line feed behind it"
found_text found.Longer = codes "more than 16384 bytes"
