-- Words with a blank between each two, one word more at a time.
use Rattle.std.proofs.Common.{◌≡◌, ℕ, Bool, true, false, ◌+◌, ◌<◌, ◌≤◌, cond, List, [], ◌∷◌, ◌++◌, map, take, length, length-take, get_or, decimal, ◌==◌, refl, sym, ap, ◌∙◌, append_assoc, arith}
use Rattle.std.proofs.lemmas.Bool.{cond-true, cond-false, ne_eqb}
use Rattle.std.proofs.lemmas.List.{append-nil, map-append, map-id, flat_map_more, take_all, take_more}
use Rattle.std.proofs.lemmas.List.Elements.{filter-append}
use Rattle.std.proofs.lemmas.List.FromFn.{map-range_with_len_more}
use Rattle.std.specs.List.{filter, flat_map, enumerate_from, join_with_byte, range_with_len}
use Rattle.doors.specs.Sets.{has}
use Rattle.picture.specs.Words.{spaced, numbered, set_words, set_text, arc_word, arc_words, arcs_text}

-- what stands between these words and one more
abbrev pub gap : List (List ℕ) → List ℕ
gap [] = []
gap (w ∷ ws) = 32 ∷ []

-- the words so far
abbrev pub joined : List (List ℕ) → List ℕ
joined ws = join_with_byte 32 ws

pub joined-more : (ws : List (List ℕ)) (w : List ℕ) → joined ws ++ (gap ws ++ w) ≡ joined (ws ++ w ∷ [])
joined-more [] w = refl
joined-more (v ∷ []) w = refl
joined-more (v ∷ u ∷ ws) w = append_assoc v (32 ∷ joined (u ∷ ws)) (32 ∷ w) ∙ ap (λ (t : List ℕ). v ++ 32 ∷ t) (joined-more (u ∷ ws) w)

pub gap-more : (ws : List (List ℕ)) (w : List ℕ) → gap (ws ++ w ∷ []) ≡ 32 ∷ []
gap-more [] w = refl
gap-more (v ∷ ws) w = refl

-- the end: a dash if there was no word
pub spaced-none : (ws : List (List ℕ)) (g : List ℕ) → g ≡ gap ws → (length g == 0) ≡ true → joined ws ++ 45 ∷ [] ≡ spaced ws
spaced-none [] g e h = refl
spaced-none (w ∷ ws) g e h = let no : (length g == 0) ≡ false = ap (λ (t : List ℕ). length t == 0) e in cc

pub spaced-some : (ws : List (List ℕ)) (g : List ℕ) → g ≡ gap ws → (length g == 0) ≡ false → joined ws ≡ spaced ws
spaced-some [] g e h = let yes : (length g == 0) ≡ true = ap (λ (t : List ℕ). length t == 0) e in cc
spaced-some (w ∷ ws) g e h = refl

-- items with their numbers, one item more at a time
enumerate-more : {X : Type 0} (a n : ℕ) (xs : List X) (x : X) → a + length xs ≡ n → enumerate_from a (xs ++ x ∷ []) ≡ enumerate_from a xs ++ (n, x) ∷ []
enumerate-more a n [] x e = ap (λ (k : ℕ). (k, x) ∷ []) (omega (arith, e))
enumerate-more a n (y ∷ xs) x e = ap (λ t. (a, y) ∷ t) (enumerate-more (a + 1) n xs x (omega (arith, e)))

pub numbered-more : {X Y : Type 0} (f : ℕ → X → List Y) (xs : List X) (i : ℕ) (d : X) → i < length xs
    → numbered f (take i xs) ++ f (i + 1) (get_or xs i d) ≡ numbered f (take (i + 1) xs)
numbered-more f xs i d h =
    let x = get_or xs i d in
    let long : length (take i xs) ≡ i = omega (arith, length-take i xs) in
    flat_map_more (λ p. f p.0 p.1) [] (enumerate_from 1 (take i xs)) (i + 1, x)
    ∙ ap (flat_map (λ p. f p.0 p.1)) (sym (enumerate-more 1 (i + 1) (take i xs) x (omega (arith, long))))
    ∙ ap (numbered f) (sym (take_more xs i d h))

-- the first k numbers, one more at a time
pub range-more : (k : ℕ) → range_with_len 0 (k + 1) ≡ range_with_len 0 k ++ k ∷ []
range-more k = simp map-id at (map-range_with_len_more (λ j. j) 0 k k (omega arith))

one : (b : Bool) (k : ℕ) → map decimal (cond b (k ∷ []) []) ≡ cond b (decimal k ∷ []) []
one true k = refl
one false k = refl

-- the numbers of a set, one more at a time
pub set_words-more : (set k : ℕ) → set_words set k ++ cond (has set k) (decimal k ∷ []) [] ≡ set_words set (k + 1)
set_words-more set k =
    let ks = range_with_len 0 k in
    rw (range-more k, filter-append (has set) ks (k ∷ []), map-append decimal (filter (has set) ks) (filter (has set) (k ∷ [])))
    (ap (λ (t : List (List ℕ)). set_words set k ++ t) (sym (one (has set k) k)))

pub set_text-is : (set k : ℕ) → k ≡ 32 → spaced (set_words set k) ≡ set_text set
unfolding set_text
set_text-is set k e = ap (λ (j : ℕ). spaced (set_words set j)) e

-- the arcs of a record, one door more at a time
module _ (to : List ℕ) (k : ℕ) (inside : k < length to) where
  next : arc_words (take k to) ++ arc_word (k + 1) (get_or to k 0) ≡ arc_words (take (k + 1) to)
  next = numbered-more arc_word to k 0 inside

  pub arc_words-more : ¬ (get_or to k 0 ≡ 0)
      → arc_words (take k to) ++ (decimal (k + 1) ++ 58 ∷ decimal (get_or to k 0)) ∷ [] ≡ arc_words (take (k + 1) to)
  arc_words-more some =
      let arc : List (List ℕ) = (decimal (k + 1) ++ 58 ∷ decimal (get_or to k 0)) ∷ [] in
      ap (λ (t : List (List ℕ)). arc_words (take k to) ++ t) (sym (cond-false (get_or to k 0 == 0) [] arc (ne_eqb _ _ some))) ∙ next

  pub arc_words-same : get_or to k 0 ≡ 0 → arc_words (take k to) ≡ arc_words (take (k + 1) to)
  arc_words-same none =
      let arc : List (List ℕ) = (decimal (k + 1) ++ 58 ∷ decimal (get_or to k 0)) ∷ [] in
      sym (append-nil (arc_words (take k to)))
      ∙ ap (λ (t : List (List ℕ)). arc_words (take k to) ++ t) (sym (cond-true (get_or to k 0 == 0) [] arc (ap (λ b. b == 0) none))) ∙ next

pub arcs_text-is : (to : List ℕ) (k : ℕ) → length to ≤ k → spaced (arc_words (take k to)) ≡ arcs_text to
unfolding arcs_text
arcs_text-is to k h = ap (λ (bs : List ℕ). spaced (arc_words bs)) (take_all k to h)
