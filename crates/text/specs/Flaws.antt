-- What the bytes of a field show of why it cannot be read.
use Rattle.std.specs.Prelude.{ℕ, Bool, ◌&&◌, ◌||◌, ◌==◌, List, [], ◌∷◌, length, drop, nat_eq, nat_le, nat_lt, Option, None, Some, slice_index, if◌then◌else◌}
use Rattle.std.specs.List.{list_any, starts_with}
use Rattle.std.specs.Char.{is_ascii_uppercase}
use Rattle.std.specs.Str.{byte}
use Rattle.text.specs.declared.flaw.Flaw.{Flaw}
use Rattle.text.specs.declared.flaw.Flaw.TheVariants.{ByteOrderMark, Utf16, CarriageReturn, Blank, NotAscii, Empty, LeadingZero, Sign, Point, Capital}
use Rattle.text.specs.Number.{dash}
use Rattle.text.specs.Pieces.{fields_in}

-- whether the byte b is one of the bytes
abbrev pub has_byte : ℕ → List ℕ → Bool
has_byte b bs = list_any (λ y. nat_eq y b) bs

-- whether the bytes begin with a digit 0 and another digit
abbrev pub has_leading_zero : List ℕ → Bool
has_leading_zero bs =
    slice_index bs 0 == byte "0" && (nat_le (byte "0") (slice_index bs 1) && nat_le (slice_index bs 1) (byte "9"))

-- whether they begin with a sign, and something stands behind it
abbrev pub has_sign : List ℕ → Bool
has_sign bs = nat_lt 1 (length bs) && (slice_index bs 0 == byte "+" || slice_index bs 0 == byte "-")

-- whether they look like UTF-16: by its mark at their start, or by a byte 0
abbrev pub is_wide : List ℕ → Bool
is_wide bs =
    starts_with nat_eq bs (255 ∷ 254 ∷ []) || (starts_with nat_eq bs (254 ∷ 255 ∷ []) || has_byte 0 bs)

-- the flaw of bytes with no mark, no carriage return and no blank, all of them ASCII
abbrev pub word_flaw : List ℕ → Option Flaw
word_flaw bs =
    if length bs == 0 then Some Empty
    else if has_leading_zero bs then Some LeadingZero
    else if has_sign bs then Some Sign
    else if has_byte (byte ".") bs || has_byte (byte ",") bs then Some Point
    else if list_any is_ascii_uppercase bs then Some Capital
    else None

-- whether the byte b is no ASCII
abbrev pub is_beyond_ascii : ℕ → Bool
is_beyond_ascii b = nat_le 128 b

-- the flaw of a field, the first of these; the first is the mark that editors put ahead of a text in UTF-8
abbrev pub flaw_in : List ℕ → Option Flaw
flaw_in bs =
    if starts_with nat_eq bs (239 ∷ 187 ∷ 191 ∷ []) then Some ByteOrderMark
    else if is_wide bs then Some Utf16
    else if has_byte 13 bs then Some CarriageReturn
    else if has_byte (byte " ") bs then Some Blank
    else if list_any is_beyond_ascii bs then Some NotAscii
    else word_flaw bs

-- the flaw of a field where a change is due, which may begin with a minus
abbrev pub change_flaw : List ℕ → Option Flaw
change_flaw bs =
    if dash bs then None else if slice_index bs 0 == byte "-" then flaw_in (drop 1 bs) else flaw_in bs

-- the flaw of a line with a wrong count of fields
abbrev pub line_flaw : List ℕ → Option Flaw
line_flaw line =
    if has_byte 13 line then Some CarriageReturn
    else if has_byte (byte " ") line then Some Blank
    else if list_any (λ f. nat_eq (length f) 0) (fields_in line) then Some Empty
    else None

-- a flaw that says why no line feed ends a line, if it is one of these
abbrev pub mark_flaw : Option Flaw → Option Flaw
mark_flaw (Some ByteOrderMark) = Some ByteOrderMark
mark_flaw (Some Utf16) = Some Utf16
mark_flaw (Some CarriageReturn) = Some CarriageReturn
mark_flaw flaw = None

-- the flaw of a line that no line feed ends
abbrev pub end_flaw : List ℕ → Option Flaw
end_flaw line = mark_flaw (flaw_in line)
