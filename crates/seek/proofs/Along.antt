-- From node to node along the arcs by given doors.
use Rattle.std.proofs.Common.{◌≡◌, ◌≢◌, ℕ, zero, suc, ◌+◌, ◌-◌, ◌*◌, ◌<◌, ◌≤◌, true, false, not, ◌&&◌, ◌==◌, if◌then◌else◌, nat_le, List, [], ◌∷◌, length, get_or, take, drop, refl, sym, ap, ◌∙◌, arith}
use Rattle.std.proofs.lemmas.Bool.Decides.{nat_tests}
use Rattle.std.proofs.lemmas.Grind.{common_steps}
use Rattle.std.proofs.lemmas.List.{drop_all, drop_more, get_or-map as at-place, get_or-take, get_or_past, length-take}
use Rattle.layers.specs.declared.node.Node.{Node}
use Rattle.layers.specs.Net.{Net, node, target, is_path_from}
use Rattle.layers.specs.Calls.{arcs, layer}
use Rattle.layers.specs.Records.{arcs_in, nodes_in}
use Rattle.layers.proofs.Shaped.{layer-at, end-at, drawn-at, drawn-deep}
use Rattle.seek.specs.Rows.{fits}

-- doors that are not as many as there are layers of arcs are no path
pub no-path : (Ls : Net) (a : ℕ) (w : List ℕ) → length w ≢ length Ls → is_path_from Ls a w ≡ false
unfolding is_path_from
no-path [] a [] ne = absurd (ne refl)
no-path [] a (j ∷ w) ne = refl
no-path (L ∷ Ls) a [] ne = refl
no-path (L ∷ Ls) a (j ∷ w) ne = grind (arith, nat_tests, no-path Ls (target (node L a) j - 1) w)

module _ {S V : Type 0} (n : ℕ) (us : List (Node S V)) (place : ℕ) where
  -- no arc leaves a place past the last
  pub past-places : (door : ℕ) → length us ≤ place → 0 ≡ target (node (arcs_in n us) place) door
  past-places zero h = refl
  past-places (suc k) h = grind (arith, common_steps)

  -- the target by a door of the round
  pub target-of : (z : Node S V) (door : ℕ) → place < length us → 1 ≤ door → door ≤ n → get_or (get_or us place z).arcs.to (door - 1) 0 ≡ target (node (arcs_in n us) place) door
  target-of z zero h low high = absurd (omega arith)
  target-of z (suc k) h low high =
      let one : suc k - 1 ≡ k = omega arith in
      rw (one, at-place (λ x. take n x.arcs.to) us place z [] h) (sym (get_or-take n (get_or us place z).arcs.to k 0 (omega arith)))

-- a node has no arc by another number
pub no-target : {S V : Type 0} (n : ℕ) (us : List (Node S V)) (place door : ℕ) → (1 ≤ door → door ≤ n → ⊥) → 0 ≡ target (node (arcs_in n us) place) door
no-target n us place zero out = refl
no-target n [] place (suc k) out = refl
no-target n (u ∷ us) zero (suc k) out = sym (get_or_past (take n u.arcs.to) k 0 (omega (arith, out, length-take n u.arcs.to)))
no-target n (u ∷ us) (suc place) (suc k) out = no-target n us place (suc k) out

module _ {S V : Type 0} (n W i : ℕ) (xs us : List (Node S V)) (fit : fits n W (length xs) ≡ true) where
  -- a layer before the end's
  pub inner-layer : i < n → us ≡ take W (drop (i * W) xs) → nodes_in us ≡ (if fits n W (length xs) && nat_le i n then layer n W i xs else [])
  inner-layer lt e = rw e (grind (arith, nat_tests, layer-at W n i xs lt))

  -- the end's
  pub end-layer : i ≡ n → us ≡ take 1 (drop (n * W) xs) → nodes_in us ≡ (if fits n W (length xs) && nat_le i n then layer n W i xs else [])
  end-layer is e = rw e (grind (arith, nat_tests, end-at W n xs))

module _ {S V : Type 0} (n W : ℕ) (xs : List (Node S V)) where
  -- the arcs from layer i on begin with those of its nodes
  pub arcs-on : (i : ℕ) → i < n → drop i (arcs n W xs) ≡ arcs_in n (layer n W i xs) ∷ drop (i + 1) (arcs n W xs)
  arcs-on i lt = drop_more (arcs n W xs) i [] (omega (arith, drawn-deep n W n xs)) ∙ ap (λ L. L ∷ drop (i + 1) (arcs n W xs)) (drawn-at n W n i xs lt)

  -- one more door, where us are the nodes of layer i, and t is where its arc leads from the node at a place
  module _ (i place t j : ℕ) (us : List (Node S V)) (w : List ℕ) (fit : fits n W (length xs) ≡ true) (long : length w ≡ n) (lt : i < length w)
      (here : us ≡ (if fits n W (length xs) && nat_le i n then layer n W i xs else [])) (leads : t ≡ target (node (arcs_in n us) place) (get_or w i j)) where
    one-more : is_path_from (drop i (arcs n W xs)) place (drop i w) ≡ (not (t == 0) && is_path_from (drop (i + 1) (arcs n W xs)) (t - 1) (drop (i + 1) w))
    unfolding is_path_from
    one-more =
        let these : us ≡ layer n W i xs = grind (arith, nat_tests) in
        rw (leads, these, arcs-on i (omega arith), drop_more w i j lt) refl

    -- no arc: they are not read along a path
    pub ends-here : t ≡ 0 → false ≡ is_path_from (drop i (arcs n W xs)) place (drop i w)
    ends-here z = grind (arith, nat_tests, one-more)

    -- an arc: they are exactly if the doors after it are, from where it leads
    pub goes-on : (t ≡ 0 → ⊥) → is_path_from (drop (i + 1) (arcs n W xs)) (t - 1) (drop (i + 1) w) ≡ is_path_from (drop i (arcs n W xs)) place (drop i w)
    goes-on ne = grind (arith, nat_tests, one-more)

  -- after all doors the end is reached
  pub all-read : (i place : ℕ) (w : List ℕ) → length w ≡ n → length w ≤ i → place == 0 ≡ is_path_from (drop i (arcs n W xs)) place (drop i w)
  unfolding is_path_from
  all-read i place w long past = rw (drop_all i w past, drop_all i (arcs n W xs) (omega (arith, drawn-deep n W n xs))) refl
