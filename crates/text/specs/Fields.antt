-- The number that a field says, by its bytes and its place.
use Rattle.std.specs.Prelude.{ℕ, ◌&&◌, List, drop, ℤ, pos, neg_ℤ, Ok, Err, Result, nat_le, if◌then◌else◌}
use Rattle.std.specs.Str.Parse.{digits_value}
use Rattle.text.specs.declared.refusal.Refusal.{Refusal}
use Rattle.text.specs.declared.refusal.Refusal.TheVariants.{NotNumber, OutOfRange}
use Rattle.text.specs.Number.{plain, minus}

-- a number from low to high
abbrev pub number_in : ℕ → ℕ → List ℕ → ℕ → ℕ → Result ℕ Refusal
number_in low high bs line field =
    let v : ℕ = digits_value 10 bs in
    if plain bs
    then if nat_le low v && nat_le v high then Ok v else Err (OutOfRange line field)
    else Err (NotNumber line field)

-- a number from -99 to 99
abbrev pub change_in : List ℕ → ℕ → ℕ → Result ℤ Refusal
change_in bs line field =
    let v : ℕ = digits_value 10 bs in
    let w : ℕ = digits_value 10 (drop 1 bs) in
    if plain bs
    then if nat_le v 99 then Ok (pos v) else Err (OutOfRange line field)
    else if minus bs
    then if nat_le w 99 then Ok (neg_ℤ (pos w)) else Err (OutOfRange line field)
    else Err (NotNumber line field)
