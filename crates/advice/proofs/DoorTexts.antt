-- The doors of a set as text, one door more at a time.
use Rattle.std.proofs.Common.{◌≡◌, ℕ, zero, suc, ◌+◌, ◌-◌, ◌≤◌, [], ◌∷◌, ◌++◌, refl, sym, ap, ◌∙◌, arith}
use Rattle.std.proofs.lemmas.List.{flat_map_more}
use Rattle.std.specs.List.{flat_map, range_with_len}
use Rattle.advice.specs.Write.{door_in, doors_in}

-- one number more
range-more : (a n j : ℕ) → a + n ≡ j → range_with_len a (suc n) ≡ range_with_len a n ++ j ∷ []
range-more a zero j e = ap (λ k. k ∷ []) (omega (arith, e))
range-more a (suc n) j e = ap (λ xs. a ∷ xs) (range-more (a + 1) n j (omega (arith, e)))

pub doors_in-none : (set : ℕ) → doors_in set 0 ≡ []
unfolding doors_in
doors_in-none set = refl

pub doors_in-more : (set j : ℕ) → 1 ≤ j → doors_in set (j - 1) ++ door_in set j ≡ doors_in set (j + 1 - 1)
unfolding doors_in
doors_in-more set j h =
    let next : j + 1 - 1 ≡ suc (j - 1) = omega arith in
    let here : 1 + (j - 1) ≡ j = omega arith in
    flat_map_more (door_in set) [] (range_with_len 1 (j - 1)) j
    ∙ ap (flat_map (door_in set)) (sym (range-more 1 (j - 1) j here))
    ∙ ap (λ n. flat_map (door_in set) (range_with_len 1 n)) (sym next)
