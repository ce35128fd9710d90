-- Loops that write f a at each place a, counting up
use Rattle.std.proofs.Common.{◌≡◌, ℕ, ◌+◌, ◌<◌, List, [], ◌∷◌, ◌++◌, map, length, get_or, drop, set, sym, ap, ◌∙◌, zero-add}
use Rattle.std.specs.List.{range_with_len}
use Rattle.std.proofs.lemmas.List.{append_assoc, drop_more, set_at}
use Rattle.std.proofs.lemmas.List.FromFn.{map-range_with_len_more, length-map-range_with_len}

-- the step of such a loop
pub over-more : {X : Type 0} (f : ℕ → X) (xs : List X) (a : ℕ) → a < length xs → set (map f (range_with_len 0 a) ++ drop a xs) a (f a) ≡ map f (range_with_len 0 (a + 1)) ++ drop (a + 1) xs
over-more f xs a lt =
    ap (λ ys. set (map f (range_with_len 0 a) ++ ys) a (f a)) (drop_more xs a (f a) lt)
    ∙ set_at (map f (range_with_len 0 a)) (get_or xs a (f a)) (drop (a + 1) xs) (f a) a (length-map-range_with_len f 0 a)
    ∙ sym (append_assoc (map f (range_with_len 0 a)) (f a ∷ []) (drop (a + 1) xs))
    ∙ ap (λ ys. ys ++ drop (a + 1) xs) (sym (map-range_with_len_more f 0 a a (zero-add a)))
