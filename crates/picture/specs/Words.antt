-- Sets and arcs as words.
use Rattle.std.specs.Prelude.{ℕ, List, [], ◌∷◌, ◌++◌, map, codes, decimal, ◌==◌, if◌then◌else◌}
use Rattle.std.specs.List.{filter, flat_map, enumerate_from, join_with_byte, range_with_len}
use Rattle.doors.specs.Sets.{has}

-- the text of these parts, one behind the other
abbrev pub joined_text : List (List ℕ) → List ℕ
joined_text [] = []
joined_text (x ∷ []) = x
joined_text (x ∷ y ∷ ys) = x ++ joined_text (y ∷ ys)

-- these words, a blank between each two, and a dash if there are none
abbrev pub spaced : List (List ℕ) → List ℕ
spaced [] = codes "-"
spaced (w ∷ ws) = join_with_byte 32 (w ∷ ws)

-- what each of these gives, with its number, in a row: the first is number 1
abbrev pub numbered : {X Y : Type 0} → (ℕ → X → List Y) → List X → List Y
numbered f xs = flat_map (λ p. f p.0 p.1) (enumerate_from 1 xs)

-- the numbers below k of a set
abbrev pub set_words : ℕ → ℕ → List (List ℕ)
set_words set k = map decimal (filter (has set) (range_with_len 0 k))

-- a set: its numbers, in order
unfoldable pub set_text : ℕ → List ℕ
set_text set = spaced (set_words set 32)

-- the arc by door j to node b of the next layer, as one word: door and target; 0 is no arc
abbrev pub arc_word : ℕ → ℕ → List (List ℕ)
arc_word j b = if b == 0 then [] else joined_text (decimal j ∷ codes ":" ∷ decimal b ∷ []) ∷ []

-- those by the doors 1, 2, .., where these are the numbers of their targets
abbrev pub arc_words : List ℕ → List (List ℕ)
arc_words = numbered arc_word

-- the same as text
unfoldable pub arcs_text : List ℕ → List ℕ
arcs_text to = spaced (arc_words to)
