-- The one pass gives each node what the list of its arrives comes to
use Rattle.std.proofs.Common.{◌≡◌, ℕ, ◌+◌, ◌-◌, ◌<◌, cond, eqb, List, [], ◌∷◌, map, length, get_or, set, fold, refl, ap, ◌∙◌, ⊎_elim, arith}
use lib.Bits.{bit_or, or_add_and, and_le_r}
use Rattle.std.specs.List.{range_with_len, flat_map, AllByRecursion as All}
use Rattle.std.proofs.lemmas.Bool.Decides.{nat_tests}
use Rattle.std.proofs.lemmas.Grind.{common_steps}
use Rattle.std.proofs.lemmas.Nat.{pow_pos}
use Rattle.std.proofs.lemmas.List.{length-set, length-map, get_or-map}
use Rattle.std.proofs.lemmas.List.FromFn.{fill_by_all}
use Rattle.std.proofs.lemmas.Bool.{cases_eq, eq-eqb, ne_eqb, cond_both}
use Rattle.layers.specs.declared.node.Node.{Node}
use Rattle.layers.specs.declared.node.Down.{Down}
use Rattle.layers.specs.Labels.{arrival_over, merge, blank_label}
use Rattle.labels.specs.Passes.{arrivals, with_down, blank_node, by_door, from_node, gathered, labelled, next_layer, cleared, taken, landed, hit, crossed, spread}
use Rattle.labels.proofs.Folds.{all_joined, folded_keeps, folded-view}
use Rattle.layers.specs.Settings.{Setting}
use Rattle.layers.specs.Records.{nodes_in}

module _ {S V : Type 0} (by : Setting S V) where
  abbrev takes : Node S V → Down S V → Node S V
  takes v x = with_down v (taken by.rule by.tally v.label.down x)

  -- ---- what stays when a label is written stays over a node's arcs
  module _ (P : List (Node S V) → Type 0) (h : (ys : List (Node S V)) (i : ℕ) (l : Down S V) → P ys → P (set ys i (with_down (get_or ys i (blank_node by.rule by.tally)) l))) where
    crossed-has : (u : Node S V) (ys : List (Node S V)) (k : ℕ) → P ys → P (crossed by u ys k)
    unfolding crossed hit landed
    crossed-has u ys k p = let t = get_or u.arcs.to k 0 in cond_both (eqb t 0) ys (landed by.rule by.tally ys (t - 1) (arrival_over by u.label.down (k + 1))) P (λ _. p) (λ _. h ys (t - 1) _ p)

    pub spread-has : (ys : List (Node S V)) (u : Node S V) → P ys → P (spread by ys u)
    unfolding spread
    spread-has ys u p = cond_both (eqb u.label.down.lasts 0) ys (fold (crossed by u) ys (range_with_len 0 16)) P (λ _. p) (λ _. folded_keeps P (crossed by u) (crossed-has u) ys (range_with_len 0 16) p)

  -- ---- one place of the targets
  hit-at : (vs : List (Node S V)) (b t : ℕ) (x : Down S V) → b < length vs
      → get_or (hit by.rule by.tally vs t x) b (blank_node by.rule by.tally) ≡ fold (takes) (get_or vs b (blank_node by.rule by.tally)) (cond (eqb t (b + 1)) (x ∷ []) [])
  unfolding hit landed
  hit-at vs b t x lt = grind (arith, common_steps, nat_tests)

  spread_at : (b : ℕ) (vs : List (Node S V)) (u : Node S V) → b < length vs
      → get_or (spread by vs u) b (blank_node by.rule by.tally) ≡ fold (takes) (get_or vs b (blank_node by.rule by.tally)) (from_node by (b + 1) u)
  unfolding spread from_node crossed by_door
  spread_at b vs u lt =
      let z = blank_node by.rule by.tally in
      let doors : get_or (fold (crossed by u) vs (range_with_len 0 16)) b z ≡ fold (takes) (get_or vs b z) (flat_map (by_door by (b + 1) u) (range_with_len 0 16)) =
      folded-view (λ ys. b < length ys) (λ ys. get_or ys b z) (crossed by u) (takes) (by_door by (b + 1) u)
      (crossed-has (λ ys. b < length ys) (λ ys i l h. omega (arith, length-set {A = Node S V})) u)
      (λ ys k h. hit-at ys b (get_or u.arcs.to k 0) (arrival_over by u.label.down (k + 1)) h)
      vs (range_with_len 0 16) lt in
      ⊎_elim (λ e. rw (eq-eqb u.label.down.lasts 0 e) refl) (λ n. rw (ne_eqb u.label.down.lasts 0 n) doors) (cases_eq u.label.down.lasts 0)

  -- ---- what is taken in is what is gathered
  takes-label : (v : Node S V) (xs : List (Down S V)) → fold (takes) v xs ≡ with_down v (fold (taken by.rule by.tally) v.label.down xs)
  takes-label v [] = refl
  takes-label v (x ∷ xs) = takes-label (takes v x) xs

  or_some : (a b : ℕ) → 0 < a → 0 < bit_or a b
  or_some a b h = omega (arith, or_add_and a b, and_le_r a b)

  taken-merged : (got : Down S V) (xs : List (Down S V)) → 0 < got.lasts → fold (taken by.rule by.tally) got xs ≡ fold (merge by.rule by.tally) got xs
  unfolding taken merge
  taken-merged got [] h = refl
  taken-merged got (x ∷ xs) h = grind (arith, common_steps, nat_tests, taken-merged (merge by.rule by.tally got x) xs (or_some got.lasts x.lasts h))

  abbrev Reached : Down S V → Type 0
  Reached x = 0 < x.lasts

  taken-gathered : (xs : List (Down S V)) → All Reached xs → fold (taken by.rule by.tally) (blank_label by.rule by.tally) xs ≡ gathered by.rule by.tally xs
  unfolding gathered taken
  taken-gathered [] h = refl
  taken-gathered (x ∷ xs) h = taken-merged x xs h.0

  reached : (t : ℕ) (us : List (Node S V)) → All Reached (arrivals by t us)
  unfolding from_node by_door arrival_over
  reached t us =
      all_joined Reached (from_node by t)
      (λ u. cond_both (eqb u.label.down.lasts 0) [] (flat_map (by_door by t u) (range_with_len 0 16)) (All Reached) (λ _. tt)
      (λ _. all_joined Reached (by_door by t u)
      (λ k. cond_both (eqb (get_or u.arcs.to k 0) t) (arrival_over by u.label.down (k + 1) ∷ []) [] (All Reached) (λ _. (pow_pos (k + 1), tt)) (λ _. tt))
      (range_with_len 0 16))) us

  -- ---- the whole layer
  pub spreads-layer : (us vs : List (Node S V)) → fold (spread by) (map (cleared by.rule by.tally) vs) (nodes_in us) ≡ next_layer by us vs
  unfolding next_layer labelled
  spreads-layer us vs =
      let z = blank_node by.rule by.tally in
      let f = cleared by.rule by.tally in
      let N = nodes_in us in
      let P : List (Node S V) → Type 0 = λ ys. length ys ≡ length vs in
      fill_by_all (labelled by us vs) (fold (spread by) (map f vs) N) (length vs) z (folded_keeps P (spread by) (spread-has P (λ ys i l e. length-set ys i _ ∙ e)) (map f vs) N (length-map vs f))
      (λ b lt.
      folded-view (λ ys. b < length ys) (λ ys. get_or ys b z) (spread by) (takes) (from_node by (b + 1)) (spread-has (λ ys. b < length ys) (λ ys i l h. omega (arith, length-set {A = Node S V})))
      (λ ys u h. spread_at b ys u h) (map f vs) N (omega (arith, length-map vs f))
      ∙ ap (λ v. fold (takes) v (arrivals by (b + 1) N)) (get_or-map f vs b z z lt)
      ∙ takes-label (f (get_or vs b z)) (arrivals by (b + 1) N)
      ∙ ap (with_down (get_or vs b z)) (taken-gathered (arrivals by (b + 1) N) (reached (b + 1) N)))
