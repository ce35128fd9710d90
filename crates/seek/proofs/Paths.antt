-- A row worked out from the row below it says what paths there are, one layer further up.
use Rattle.std.proofs.Common.{◌≡◌, ℕ, zero, suc, ◌+◌, ◌*◌, ◌≤◌, Bool, true, false, ◌||◌, List, [], ◌∷◌, get_or, take, drop, map, refl, ap, ◌∙◌, suc-mul, zero-mul, mul-le-mul_right, arith}
use mathlib.Core.Bool.{or-false}
use Rattle.std.proofs.lemmas.Bool.Decides.{nat_tests}
use Rattle.std.proofs.lemmas.Grind.{common_steps}
use Rattle.std.proofs.lemmas.List.{drop-drop}
use Rattle.layers.specs.declared.node.Node.{Node}
use Rattle.layers.specs.Net.{Outs, Net, node, still_sought, any_door, has_path_with}
use Rattle.layers.specs.Calls.{arcs}
use Rattle.layers.specs.Records.{nodes_in, layers, arcs_in, arcs_of_layers}
use Rattle.seek.specs.declared.seen.Seen.{Seen}
use Rattle.seek.specs.Rows.{none, at_end, seen_from, through, either, by_first, row_of}

-- the layer ahead of layer l is within the records
pub layer-within : (k l n w m : ℕ) → l ≡ suc k → l ≤ n → n * w + 1 ≤ m → k * w + w ≤ m
layer-within k l n w m is le h = let ends : l * w ≤ n * w = mul-le-mul_right w le in omega (arith, rw is at ends, suc-mul k w)

-- ---- one more door

-- f at the arc by the door d to the target t, if there is one
abbrev at_target : (ℕ → ℕ → Bool) → ℕ → ℕ → Bool
at_target f d zero = false
at_target f d (suc b) = f d b

any-more : (f : ℕ → ℕ → Bool) (s : ℕ) (ts : Outs) (k d : ℕ) → s + k ≡ d → any_door f s (take (suc k) ts) ≡ (any_door f s (take k ts) || at_target f d (get_or ts k 0))
unfolding any_door
any-more f s [] k d e = grind (arith, common_steps)
any-more f s (zero ∷ ts) zero d e = refl
any-more f s (suc b ∷ ts) zero d e = grind (arith, or-false (f s b))
any-more f s (t ∷ ts) (suc k) d e = grind (arith, nat_tests, any-more f (suc s) ts k d)

-- ---- what is found is found where less is sought

any-within : (f g : ℕ → ℕ → Bool) (s : ℕ) (ts : Outs) → ((d b : ℕ) → f d b ≡ true → g d b ≡ true) → any_door f s ts ≡ true → any_door g s ts ≡ true
unfolding any_door
any-within f g s [] h e = e
any-within f g s (zero ∷ ts) h e = any-within f g (suc s) ts h e
any-within f g s (suc b ∷ ts) h e = grind (arith, h s b, any-within f g (suc s) ts h)

still-fewer : (Ls : Net) (fewer : (b g : ℕ) (gs : List ℕ) → has_path_with Ls b (g ∷ gs) ≡ true → has_path_with Ls b gs ≡ true) (b d g : ℕ) (gs : List ℕ)
    → has_path_with Ls b (still_sought (g ∷ gs) d) ≡ true → has_path_with Ls b (still_sought gs d) ≡ true
still-fewer Ls fewer b d g [] e = grind (arith, nat_tests, fewer b g [])
still-fewer Ls fewer b d g (h ∷ gs) e = grind (arith, nat_tests, fewer b g (h ∷ gs), fewer b h gs)

fewer : (Ls : Net) (b g : ℕ) (gs : List ℕ) → has_path_with Ls b (g ∷ gs) ≡ true → has_path_with Ls b gs ≡ true
unfolding has_path_with
fewer [] b g gs e = grind arith
fewer (L ∷ Ls) b g gs e =
    any-within (λ d c. has_path_with Ls c (still_sought (g ∷ gs) d)) (λ d c. has_path_with Ls c (still_sought gs d)) 1 (node L b) (λ d c. still-fewer Ls (fewer Ls) c d g gs) e

module _ (i j : ℕ) where
  abbrev pub IsSeen : List Seen → Net → Type 0
  IsSeen row Ls = (t : ℕ) → get_or row t none ≡ seen_from i j Ls t

  -- ---- at the end
  end_seen : (s : Seen) (rest : List Seen) → s ≡ at_end → ((b : ℕ) → get_or rest b none ≡ none) → IsSeen (none ∷ s ∷ rest) []
  unfolding has_path_with
  end_seen s rest e h zero = refl
  end_seen s rest e h (suc zero) = e
  end_seen s rest e h (suc (suc b)) = grind (arith, nat_tests, h b)

  -- ---- over the arcs of one node
  module _ (Ls : Net) where
    -- an arc by the door d to the node at place b, from where a path has what is left of gs
    abbrev leads : List ℕ → ℕ → ℕ → Bool
    leads gs d b = has_path_with Ls b (still_sought gs d)

    -- what is seen, if f says what paths there are
    abbrev seen_by : (List ℕ → Bool) → Seen
    seen_by f = record { ends = f []; one = f (i ∷ []); both = f (j ∷ i ∷ []) }

    seen_over : Outs → Seen
    seen_over ts = seen_by (λ gs. any_door (leads gs) 1 ts)

    through-is : (d t : ℕ) → through i j d (seen_from i j Ls t) ≡ seen_by (λ gs. at_target (leads gs) d t)
    through-is d zero = grind (arith, nat_tests)
    through-is d (suc b) = grind (arith, nat_tests, fewer Ls b i [], fewer Ls b j (i ∷ []))

    over-more : (ts : Outs) (k : ℕ) → either (seen_over (take k ts)) (through i j (k + 1) (seen_from i j Ls (get_or ts k 0))) ≡ seen_over (take (suc k) ts)
    unfolding seen_over
    over-more ts k =
        let more = λ (gs : List ℕ). any-more (leads gs) 1 ts k (k + 1) (omega arith) in
        ap (either (seen_over (take k ts))) (through-is (k + 1) (get_or ts k 0)) ∙ rw (more [], more (i ∷ []), more (j ∷ i ∷ [])) refl

    module _ {S V : Type 0} (below : List Seen) (h : IsSeen below Ls) where
      first-seen : (u : Node S V) (k : ℕ) → by_first i j below u k ≡ seen_over (take k u.arcs.to)
      unfolding seen_over any_door
      first-seen u zero = refl
      first-seen u (suc k) = rw (first-seen u k, h (get_or u.arcs.to k 0)) (over-more u.arcs.to k)

      -- ---- one layer
      place-seen : (n : ℕ) (N : List (Node S V)) (k : ℕ) → get_or (map (λ u. by_first i j below u n) N) k none ≡ seen_over (get_or (arcs_in n N) k [])
      unfolding seen_over any_door
      place-seen n [] k = refl
      place-seen n (u ∷ N) zero = first-seen u n
      place-seen n (u ∷ N) (suc k) = place-seen n N k

      pub layer-seen : (n : ℕ) (us : List (Node S V)) (t : ℕ) → get_or (row_of (λ u. by_first i j below u n) us) t none ≡ seen_from i j (arcs_in n (nodes_in us) ∷ Ls) t
      unfolding has_path_with seen_over
      layer-seen n us zero = refl
      layer-seen n us (suc k) = place-seen n (nodes_in us) k

  -- ---- the last layers
  module _ {S V : Type 0} (n w : ℕ) (xs : List (Node S V)) where
    drawn-more : (N : List (Node S V)) (m : ℕ) (ys : List (Node S V)) → arcs_of_layers n (N ∷ layers w m ys) ≡ arcs_in n N ∷ arcs_of_layers n (layers w m ys)
    drawn-more N zero ys = refl
    drawn-more N (suc m) ys = refl

    -- the row of layer k
    abbrev pub Reached : List Seen → ℕ → Type 0
    Reached row k = (m : ℕ) → m + k ≡ n → IsSeen row (arcs_of_layers n (layers w m (drop (k * w) xs)))

    pub reached-end : (s : Seen) (rest : List Seen) → s ≡ at_end → ((b : ℕ) → get_or rest b none ≡ none) → Reached (none ∷ s ∷ rest) n
    reached-end s rest e h zero q t = end_seen s rest e h t
    reached-end s rest e h (suc m) q t = absurd (omega arith)

    -- from layer l to layer k, the one ahead of it
    pub reached-more : (k l : ℕ) (row up : List Seen) (us : List (Node S V)) → l ≡ suc k → l ≤ n → us ≡ take w (drop (k * w) xs)
        → ((t : ℕ) → get_or up t none ≡ get_or (row_of (λ u. by_first i j row u n) us) t none) → Reached row l → Reached up k
    reached-more k l row up us is le here new h zero e t = absurd (omega arith)
    reached-more k l row up us is le here new h (suc m) e t =
        let place : l * w ≡ k * w + w = rw is (omega (arith, suc-mul k w)) in
        let rest : drop (l * w) xs ≡ drop w (drop (k * w) xs) = rw (place, drop-drop w (k * w) xs) refl in
        let N : List (Node S V) = take w (drop (k * w) xs) in
        rw (drawn-more (nodes_in N) m (drop w (drop (k * w) xs)), ← rest) (new t ∙ ap (λ vs. get_or (row_of (λ u. by_first i j row u n) vs) t none) here ∙ layer-seen _ row (h m (omega arith)) n N t)

    -- at the first layer
    pub reached-first : (k : ℕ) (row : List Seen) → k ≡ 0 → Reached row k → IsSeen row (arcs n w xs)
    reached-first k row is h t = let all = rw (is, zero-mul w) at h in all n (omega arith) t
