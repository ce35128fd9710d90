-- The lines of an outlook, one door more at a time.
use Rattle.std.proofs.Common.{◌≡◌, ℕ, ◌+◌, ◌-◌, ◌<◌, ◌≤◌, cond, List, [], ◌∷◌, ◌++◌, take, length, slice_index, decimal, sym, ap, ◌∙◌, arith}
use Rattle.std.proofs.lemmas.List.{flat_map_more, map-id, take_more}
use Rattle.std.proofs.lemmas.List.FromFn.{map-range_with_len_more}
use Rattle.std.specs.List.{flat_map, range_with_len}
use Rattle.outlook.specs.declared.outlook.Outlook.{Outlook}
use Rattle.outlook.specs.declared.relations.Relation.{Relation}
use Rattle.outlook.specs.Relations.{holds, relation_line, lines_with, relation_lines}
use Rattle.outlook.specs.Texts.{door_line, door_lines, door_words}

-- one number more
range-more : (a n j : ℕ) → a + n ≡ j → range_with_len a (n + 1) ≡ range_with_len a n ++ j ∷ []
range-more a n j e = simp map-id at (map-range_with_len_more (λ k. k) a n j e)

-- from j - 1 numbers to j
more : {X : Type 0} (f : ℕ → List X) (j : ℕ) → 1 ≤ j
    → flat_map f (range_with_len 1 (j - 1)) ++ f j ≡ flat_map f (range_with_len 1 (j + 1 - 1))
more f j h =
    flat_map_more f [] (range_with_len 1 (j - 1)) j
    ∙ ap (flat_map f) (sym (range-more 1 (j - 1) j (omega arith)))
    ∙ ap (λ n. flat_map f (range_with_len 1 n)) (omega arith)

pub lines_with-more : (x : Relation) (o : Outlook) (j i : ℕ) → 1 ≤ i
    → lines_with x o j (i - 1) ++ cond (holds x o i j) (relation_line x (slice_index o.round.now.keepers j) i j) [] ≡ lines_with x o j (i + 1 - 1)
unfolding lines_with
lines_with-more x o j i h = more (λ k. cond (holds x o k j) (relation_line x (slice_index o.round.now.keepers j) k j) []) i h

pub relation_lines-more : (x : Relation) (o : Outlook) (j : ℕ) → 1 ≤ j
    → relation_lines x o (j - 1) ++ lines_with x o j o.round.now.n ≡ relation_lines x o (j + 1 - 1)
unfolding relation_lines
relation_lines-more x o j h = more (λ k. lines_with x o k o.round.now.n) j h

pub door_lines-more : (o : Outlook) (j : ℕ) → 1 ≤ j → door_lines o (j - 1) ++ door_line o j ≡ door_lines o (j + 1 - 1)
unfolding door_lines
door_lines-more o j h = more (door_line o) j h

pub door_words-more : (w : List ℕ) (k : ℕ) → k < length w → door_words (take k w) ++ 32 ∷ decimal (slice_index w k) ≡ door_words (take (k + 1) w)
unfolding door_words
door_words-more w k h =
    let f : ℕ → List ℕ = λ j. 32 ∷ decimal j in
    flat_map_more f [] (take k w) (slice_index w k) ∙ ap (flat_map f) (sym (take_more w k 0 h))
