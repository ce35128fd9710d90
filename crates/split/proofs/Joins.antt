-- Two nodes' arcs, door by door, and records that move down by one
use Rattle.std.proofs.Common.{◌≡◌, ℕ, zero, suc, Bool, not, ◌&&◌, ◌||◌, eqb, ◌≢◌, List, [], ◌∷◌, ◌++◌, map, length, get_or, take, drop, refl, ap, ap₂, arith, ◌+◌, ◌-◌, ◌<◌, set, ◌∙◌, add-one}
use Rattle.std.proofs.lemmas.Bool.Decides.{nat_tests}
use Rattle.std.specs.List.{range_with_len, list_any, zip}
use Rattle.std.proofs.lemmas.List.FromFn.{fill_by_all}
use Rattle.layers.specs.declared.node.Node.{Node}
use Rattle.layers.specs.Join.{targets_differ, clash, either_target, both_out, without_place}
use Rattle.layers.specs.Targets.{targets, with_targets}
use Rattle.split.specs.Joined.{joined_node}
use Rattle.labels.proofs.Redirects.{written}
use Rattle.std.proofs.lemmas.List.{take_rest, length-take, drop_more, set_at, length-append, length-drop, drop_all}

-- ---- one door
-- two arcs, to different nodes, as it is tested
abbrev pub apartPair : ℕ × ℕ → Bool
apartPair p = not (eqb p.0 0) && (not (eqb p.1 0) && not (eqb p.0 p.1))

apart-tested : (s t : ℕ) → apartPair (s, t) ≡ targets_differ s t
apart-tested zero t = grind (arith, nat_tests)
apart-tested (suc s) zero = grind (arith, nat_tests)
apart-tested (suc s) (suc t) = grind (arith, nat_tests)

pub pick_some : (s t : ℕ) → s ≢ 0 → s ≡ either_target s t
pick_some zero t some = absurd (some refl)
pick_some (suc s) t some = refl

-- ---- all doors
pub clash-zipped : (ss ts : List ℕ) → list_any apartPair (zip ss ts) ≡ clash ss ts
unfolding clash
clash-zipped [] ts = refl
clash-zipped (s ∷ ss) [] = refl
clash-zipped (s ∷ ss) (t ∷ ts) = ap₂ ◌||◌ (apart-tested s t) (clash-zipped ss ts)

pub all-targets : {S V : Type 0} (x : Node S V) → length x.arcs.to ≡ 16 → x.arcs.to ≡ targets x
unfolding targets
all-targets x long = fill_by_all (λ k. get_or x.arcs.to k 0) x.arcs.to 16 0 long (λ k lt. refl)

both-mapped : (f g : ℕ → ℕ) (ks : List ℕ) → map (λ k. either_target (f k) (g k)) ks ≡ both_out (map f ks) (map g ks)
unfolding both_out
both-mapped f g [] = refl
both-mapped f g (k ∷ ks) = ap (λ ts. either_target (f k) (g k) ∷ ts) (both-mapped f g ks)

abbrev pub picked : {S V : Type 0} → Node S V → Node S V → ℕ → ℕ
picked x y k = either_target (get_or x.arcs.to k 0) (get_or y.arcs.to k 0)

pub both-made : {S V : Type 0} (x y : Node S V) → with_targets x (written (picked x y) 16) ≡ joined_node x y
unfolding joined_node targets
both-made x y = ap (with_targets x) (both-mapped (λ k. get_or x.arcs.to k 0) (λ k. get_or y.arcs.to k 0) (range_with_len 0 16))

-- ---- taking out one record
pub dropped : {X : Type 0} (at : ℕ) (xs : List X) → take at xs ++ drop (suc at) xs ≡ without_place at xs
unfolding without_place
dropped zero [] = refl
dropped (suc at) [] = refl
dropped zero (x ∷ xs) = refl
dropped (suc at) (x ∷ xs) = ap (λ ys. x ∷ ys) (dropped at xs)

pub taken_out : {X : Type 0} (xs : List X) (at : ℕ) (z : X) → at < length xs
    → set ((take at xs ++ take (length xs - (at + 1)) (drop (at + 1) xs)) ++ drop (at + (length xs - (at + 1))) xs) (length xs - 1) z ≡ without_place at xs ++ z ∷ []
taken_out xs at z lt =
    let n = length xs - 1 in
    let same : at + (length xs - (at + 1)) ≡ n = omega arith in
    let last : drop n xs ≡ get_or xs n z ∷ [] = drop_more xs n z (omega arith) ∙ ap (λ ys. get_or xs n z ∷ ys) (drop_all (n + 1) xs (omega arith)) in
    let long : length (take at xs ++ drop (at + 1) xs) ≡ n = simp (length-append, length-take, length-drop) (omega arith) in
    rw (take_rest xs (at + 1), same, last) (set_at (take at xs ++ drop (at + 1) xs) (get_or xs n z) [] z n long ∙ ap (λ ys. ys ++ z ∷ []) (ap (λ k. take at xs ++ drop k xs) (add-one at) ∙ dropped at xs))
