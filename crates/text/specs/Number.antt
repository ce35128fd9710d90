-- The forms of a field's bytes.
use Rattle.std.specs.Prelude.{ℕ, Bool, ◌&&◌, ◌||◌, List, drop, codes, bytes_eq, ◌==◌, nat_lt, slice_index}
use Rattle.std.specs.Str.{all_ascii_digits, byte}

-- digits, the first of them not 0
abbrev pub positive : List ℕ → Bool
positive f = nat_lt (byte "0") (slice_index f 0) && all_ascii_digits f

-- digits with no leading zero
abbrev pub plain : List ℕ → Bool
plain f = bytes_eq f (codes "0") || positive f

-- a minus, and digits of which the first is not 0
abbrev pub minus : List ℕ → Bool
minus f = slice_index f 0 == byte "-" && positive (drop 1 f)

-- a minus alone
abbrev pub dash : List ℕ → Bool
dash f = bytes_eq f (codes "-")
