-- What a token holds.
use Rattle.std.specs.Prelude.{◌≡◌, ℕ, true, false, List}
use Rattle.text.specs.declared.token.Token.{Token}
use Rattle.text.specs.declared.token.Token.TheVariants.{Number, Negative, Dash, Word}
use Rattle.text.specs.Number.{plain, minus, dash}

-- the bytes of a token
abbrev pub bytes_of : Token → List ℕ
bytes_of (Number b l f) = b.now
bytes_of (Negative b l f) = b.now
bytes_of (Dash b l f) = b.now
bytes_of (Word b l f) = b.now

-- its line, from 1
abbrev pub line_of : Token → ℕ
line_of (Number b l f) = l
line_of (Negative b l f) = l
line_of (Dash b l f) = l
line_of (Word b l f) = l

-- its field, from 1
abbrev pub field_of : Token → ℕ
field_of (Number b l f) = f
field_of (Negative b l f) = f
field_of (Dash b l f) = f
field_of (Word b l f) = f

-- the case of a token is that of its bytes
abbrev pub Formed : Token → Type 0
Formed (Number b l f) = plain b.now ≡ true
Formed (Negative b l f) = (plain b.now ≡ false) × (minus b.now ≡ true)
Formed (Dash b l f) = (plain b.now ≡ false) × (minus b.now ≡ false) × (dash b.now ≡ true)
Formed (Word b l f) = (plain b.now ≡ false) × (minus b.now ≡ false) × (dash b.now ≡ false)
