-- The lines of the musts, one door more at a time.
use Rattle.std.proofs.Common.{◌≡◌, ℕ, zero, suc, ◌+◌, ◌-◌, ◌≤◌, cond, List, [], ◌∷◌, ◌++◌, slice_index, refl, sym, ap, ◌∙◌, arith}
use Rattle.std.proofs.lemmas.List.{flat_map_more}
use Rattle.std.specs.List.{flat_map, range_with_len}
use Rattle.doors.specs.Sets.{has}
use Rattle.round_sheet.specs.Texts.{must_line, lines_behind, must_lines}

-- one number more
range-more : (a n j : ℕ) → a + n ≡ j → range_with_len a (suc n) ≡ range_with_len a n ++ j ∷ []
range-more a zero j e = ap (λ k. k ∷ []) (omega (arith, e))
range-more a (suc n) j e = ap (λ xs. a ∷ xs) (range-more (a + 1) n j (omega (arith, e)))

-- from j - 1 numbers to j
more : {X : Type 0} (f : ℕ → List X) (j : ℕ) → 1 ≤ j
    → flat_map f (range_with_len 1 (j - 1)) ++ f j ≡ flat_map f (range_with_len 1 (j + 1 - 1))
more f j h =
    let next : j + 1 - 1 ≡ suc (j - 1) = omega arith in
    let here : 1 + (j - 1) ≡ j = omega arith in
    flat_map_more f [] (range_with_len 1 (j - 1)) j
    ∙ ap (flat_map f) (sym (range-more 1 (j - 1) j here))
    ∙ ap (λ n. flat_map f (range_with_len 1 n)) (sym next)

pub lines_behind-none : (i set : ℕ) → lines_behind i set 0 ≡ []
unfolding lines_behind
lines_behind-none i set = refl

pub lines_behind-more : (i set j : ℕ) → 1 ≤ j
    → lines_behind i set (j - 1) ++ cond (has set j) (must_line i j) [] ≡ lines_behind i set (j + 1 - 1)
unfolding lines_behind
lines_behind-more i set j h = more (λ k. cond (has set k) (must_line i k) []) j h

pub must_lines-none : (musts : List ℕ) → must_lines musts 0 ≡ []
unfolding must_lines
must_lines-none musts = refl

pub must_lines-more : (musts : List ℕ) (i : ℕ) → 1 ≤ i
    → must_lines musts (i - 1) ++ lines_behind i (slice_index musts i) 16 ≡ must_lines musts (i + 1 - 1)
unfolding must_lines
must_lines-more musts i h = more (λ k. lines_behind k (slice_index musts k) 16) i h
