-- What a part and a join do to two layers of a net, d layers down, and to their records
use Rattle.std.proofs.Common.{◌≡◌, ℕ, zero, suc, ◌+◌, ◌*◌, ◌<◌, ◌≤◌, List, [], ◌∷◌, ◌++◌, map, length, get_or, take, drop, sym, ap, ◌∙◌, subst, append_assoc, mul-le-mul_right, suc-mul, zero-mul, arith, take-add, Bool, cond, not, ◌&&◌, eqb, set, None, Option, refl, ap₂, false, ◌||◌}
use Rattle.std.proofs.lemmas.List.{take_at, drop_at, drop-drop, places, same_lists, drop-set-lt, map-set, length-set, length-map, length-append, length-take, length-take-le, length-drop, get_or-take, map_push, length_push, get_or_past}
use Rattle.layers.specs.declared.node.Node.{Node}
use Rattle.std.proofs.lemmas.List.{map-append, take-map, drop-map}
use Rattle.std.proofs.lemmas.List.Edits.{length-remove}
use Rattle.split.proofs.Joins.{dropped}
use Rattle.layers.specs.Net.{Layer, Net, table, Outs, node}
use Rattle.labels.proofs.Laying.{arcs_of, Arranged, Good}
use Rattle.labels.proofs.RedirectNet.{arranged-long, arcs-arranged, redirect-arranged, padded-is, padded-at, targets-arranged}
use lib.Seq.{take-set-lt}
use Rattle.layers.specs.declared.node.Arcs.{Arcs}
use Rattle.layers.specs.declared.node.Label.{Label}
use Rattle.layers.specs.declared.node.Down.{Down}
use Rattle.layers.specs.Flow.{arrivals_at}
use Rattle.layers.specs.Labels.{arrival_over, first_arrival, differs_from_first}
use Rattle.layers.specs.Records.{padded_targets, arcs_at}
use Rattle.layers.specs.Calls.{parted_arcs}
use Rattle.layers.specs.Targets.{redirected, targets}
use Rattle.split.specs.Parted.{parted_to, parted_node, parted_second}
use Rattle.layers.specs.Settings.{Setting}
use Rattle.layers.specs.Join.{either_target, both_out, targets_differ, clash, without_place, place_after_join, joined_arcs}
use Rattle.split.specs.Joined.{moved_to, moved_node, joined_node, joined_layer, joined_second}

-- ---- nets
-- a layer of a net has room
pub good-room : (w d : ℕ) (Ls : Net) → Good w Ls → length (get_or Ls d []) ≤ w
good-room w zero [] g = omega arith
good-room w (suc d) [] g = omega arith
good-room w zero (L ∷ Ls) g = g.1
good-room w (suc d) (L ∷ Ls) g = good-room w d Ls g.3

-- ---- numbers
pub two-fit : (w d n : ℕ) → suc d < n → d * w + w + w ≤ n * w
two-fit w d n lt = let h : suc (suc d) * w ≤ n * w = mul-le-mul_right w lt in omega (arith, suc-mul (suc d) w, suc-mul d w)

module _ {S V : Type 0} where
  -- one layer more before it
  deeper : (w d : ℕ) (xs ys : List (Node S V)) → take (suc d * w) xs ++ ys ≡ take w xs ++ (take (d * w) (drop w xs) ++ ys)
  deeper w d xs ys =
      let e : suc d * w ≡ w + d * w = omega (arith, suc-mul d w) in
      ap (λ (k : ℕ). take k xs ++ ys) e ∙ ap (λ zs. zs ++ ys) (take-add w (d * w) xs) ∙ append_assoc (take w xs) (take (d * w) (drop w xs)) ys

  drop-deeper : (w d : ℕ) (xs : List (Node S V)) → drop (suc d * w) xs ≡ drop (d * w) (drop w xs)
  drop-deeper w d xs =
      let e : suc d * w ≡ w + d * w = omega (arith, suc-mul d w) in
      ap (λ (k : ℕ). drop k xs) e ∙ sym (drop-drop (d * w) w xs)

  step-deeper : (w d : ℕ) (L : Layer) (Ls : Net) (op : List (Node S V) → List (Node S V)) (xs : List (Node S V)) → map arcs_of (take w xs) ≡ table w (arcs_at L)
      → Arranged w Ls (take (d * w) (drop w xs) ++ op (drop (d * w) (drop w xs))) → Arranged w (L ∷ Ls) (take (suc d * w) xs ++ op (drop (suc d * w) xs))
  step-deeper w d L Ls op xs first again =
      let us = take w xs in
      let rest = take (d * w) (drop w xs) ++ op (drop (d * w) (drop w xs)) in
      let many = arranged-long w L us first in
      subst (Arranged w (L ∷ Ls)) (sym (deeper w d xs (op (drop (suc d * w) xs)) ∙ ap (λ zs. us ++ (take (d * w) (drop w xs) ++ op zs)) (drop-deeper w d xs)))
      (ap (map arcs_of) (take_at us rest w many) ∙ first, subst (Arranged w Ls) (sym (drop_at us rest w many)) again)

-- ---- a node more at the end of a layer
push-table : (w : ℕ) (M : Layer) (nd : Outs) → length M < w → set (table w (arcs_at M)) (length M) (record { to = padded_targets nd }) ≡ table w (arcs_at (M ++ (nd ∷ [])))
push-table zero M nd lt = absurd (omega arith)
push-table (suc w) [] nd lt = refl
push-table (suc w) (x ∷ M) nd lt = ap (λ xs. arcs_at (x ∷ M) 0 ∷ xs) (push-table w M nd (omega arith))

push-arranged : {S V : Type 0} (w m : ℕ) (M : Layer) (nd : Outs) (vs : List (Node S V)) (y : Node S V) → map arcs_of vs ≡ table w (arcs_at M) → m ≡ length M → m < w → y.arcs ≡ record { to = padded_targets nd }
    → map arcs_of (set vs m y) ≡ table w (arcs_at (M ++ (nd ∷ [])))
push-arranged w m M nd vs y e em lt is =
    map-set arcs_of vs m y ∙ ap₂ (λ (xs : List Arcs) (x : Arcs). set xs m x) e is ∙ ap (λ (k : ℕ). set (table w (arcs_at M)) k (record { to = padded_targets nd })) em ∙ push-table w M nd (omega arith)

module _ {S V : Type 0} (stays : Label S V → ℕ → Bool) where
  -- ---- the records that stay, and the labels
  pub part_length : (w d a m : ℕ) (z : Node S V) (xs : List (Node S V)) → length (take (d * w) xs ++ parted_second stays w a m (drop (d * w) xs) z) ≡ length xs
  unfolding parted_second
  part_length w d a m z xs = simp (length-append, length-map, length-set, length-take, length-drop) (omega arith)

  pub part-tail : (n w d a m : ℕ) (z : Node S V) (xs : List (Node S V)) → suc d < n → m < w → n * w + 1 ≤ length xs
      → drop (n * w + 1) (take (d * w) xs ++ parted_second stays w a m (drop (d * w) xs) z) ≡ drop (n * w + 1) xs
  unfolding parted_second
  part-tail n w d a m z xs deep lt le =
      let fit = two-fit w d n deep in
      let many : length (map (parted_node stays a m) (take w (drop (d * w) xs))) ≡ w = simp length-map (length-take-le w (drop (d * w) xs) (omega (arith, length-drop (d * w) xs))) in
      same_lists _ _ (simp (length-drop, length-append, length-set, length-take) (omega (arith, many))) (λ k v h. grind (arith, places, many))

  same-label : (a m : ℕ) (us : List (Node S V)) → map (λ (x : Node S V). x.label) (map (parted_node stays a m) us) ≡ map (λ (x : Node S V). x.label) us
  unfolding parted_node redirected
  same-label a m [] = refl
  same-label a m (u ∷ us) = ap (λ ls. u.label ∷ ls) (same-label a m us)

  -- the records of the layer before keep their labels
  pub part-labels : (w d a m : ℕ) (z : Node S V) (xs : List (Node S V)) → d * w + w ≤ length xs
      → map (λ (x : Node S V). x.label) (take w (drop (d * w) (take (d * w) xs ++ parted_second stays w a m (drop (d * w) xs) z))) ≡ map (λ (x : Node S V). x.label) (take w (drop (d * w) xs))
  unfolding parted_second
  part-labels w d a m z xs le =
      let k = d * w in
      let ys = drop k xs in
      let A = map (parted_node stays a m) (take w ys) in
      let B = set (drop w ys) m (get_or (drop w ys) a z) in
      let many : length A ≡ w = length-map (take w ys) (parted_node stays a m) ∙ length-take-le w ys (omega (arith, length-drop k xs)) in
      ap (λ zs. map (λ (x : Node S V). x.label) (take w zs)) (drop_at (take k xs) (A ++ B) k (length-take-le k xs (omega arith)))
      ∙ ap (map (λ (x : Node S V). x.label)) (take_at A B w many)
      ∙ same-label a m (take w ys)

-- ---- the arcs
module _ {S V : Type 0} (by : Setting S V) (stays : Label S V → ℕ → Bool) where
  part-first : (w a m : ℕ) (z : Node S V) (labs : List (Option (Down S V))) (Ls : Net) (ys : List (Node S V))
      → Good w Ls → 1 < length Ls → m ≡ length (get_or Ls 1 []) → a < m → m < w
      → ((x : Node S V) (u j : ℕ) → u < length (get_or Ls 0 []) → differs_from_first by (first_arrival (arrivals_at (arrival_over by) a labs (get_or Ls 0 []))) (get_or labs u None) j ≡ not (stays (get_or ys u x).label j))
      → Arranged w Ls ys → Arranged w (parted_arcs by 0 a labs Ls) (parted_second stays w a m ys z)
  unfolding parted_arcs parted_second parted_node parted_to
  part-first w a m z labs [] ys good deep em al ml h arr = absurd (omega arith)
  part-first w a m z labs (L ∷ []) ys good deep em al ml h arr = absurd (omega arith)
  part-first w a m z labs (L ∷ M ∷ Ls) ys good deep em al ml h arr =
      let us = take w ys in
      let vs = drop w ys in
      let y = get_or vs a z in
      let A = map (parted_node stays a m) us in
      let o = first_arrival (arrivals_at (arrival_over by) a labs L) in
      let f : ℕ → ℕ → ℕ → ℕ = λ u j b. cond (eqb b a && differs_from_first by o (get_or labs u None) j) (suc (length M)) (suc b) in
      let many : length A ≡ w = length-map us (parted_node stays a m) ∙ arranged-long w L us arr.0 in
      let back : drop w (A ++ set vs m y) ≡ set vs m y = drop_at A (set vs m y) w many in
      let is : y.arcs ≡ arcs_at M a = ap (λ (x : Node S V). x.arcs) (sym (get_or-take w vs a z (omega arith))) ∙ arcs-arranged w M (take w vs) a z arr.1.0 (omega arith) in (
        ap (map arcs_of) (take_at A (set vs m y) w many)
            ∙ redirect-arranged w L us (λ (x : Node S V). parted_to stays a m x.label) f good.1 arr.0 (λ x u j b lt t.
            ap₂ (λ (q : Bool) (k : ℕ). cond (eqb b a && q) (suc k) (suc b)) (ap (λ (n : Node S V). not (stays n.label j)) (get_or-take w ys u x (omega (arith, good.1))) ∙ sym (h x u j lt)) em),
        (
          ap (λ zs. map arcs_of (take w zs)) back ∙ ap (map arcs_of) (take-set-lt w vs m y ml) ∙ push-arranged w m M (node M a) (take w vs) y arr.1.0 em ml is,
          subst (Arranged w Ls) (sym (ap (drop w) back ∙ drop-set-lt w vs m y ml)) arr.1.1,
        ),
      )

  -- the records of the net, parted, are those of the parted net
  pub part-arranged : (w d a m : ℕ) (z : Node S V) (labs : List (Option (Down S V))) (Ls : Net) (xs : List (Node S V))
      → Good w Ls → suc d < length Ls → m ≡ length (get_or Ls (suc d) []) → a < m → m < w → Arranged w Ls xs → (ys : List (Node S V)) → drop (d * w) xs ≡ ys
      → ((x : Node S V) (u j : ℕ) → u < length (get_or Ls d []) → differs_from_first by (first_arrival (arrivals_at (arrival_over by) a labs (get_or Ls d []))) (get_or labs u None) j ≡ not (stays (get_or ys u x).label j))
      → Arranged w (parted_arcs by d a labs Ls) (take (d * w) xs ++ parted_second stays w a m (drop (d * w) xs) z)
  unfolding parted_arcs
  part-arranged w zero a m z labs Ls xs good deep em al ml arr ys is h =
      let none = zero-mul w in
      let same : xs ≡ ys = ap (λ (k : ℕ). drop k xs) (sym none) ∙ is in
      rw (none, same) (part-first w a m z labs Ls ys good deep em al ml h (subst (Arranged w Ls) same arr))
  part-arranged w (suc d) a m z labs [] xs good deep em al ml arr ys is h = absurd (omega arith)
  part-arranged w (suc d) a m z labs (L ∷ Ls) xs good deep em al ml arr ys is h =
      step-deeper w d L (parted_arcs by d a labs Ls) (λ ys. parted_second stays w a m ys z) xs arr.0
      (part-arranged w d a m z labs Ls (drop w xs) good.3 (omega arith) em al ml arr.1 ys (sym (drop-deeper w d xs) ∙ is) h)

-- ---- two nodes by sixteen doors
both_at : (x y : Outs) (k : ℕ) → get_or (both_out x y) k 0 ≡ either_target (get_or x k 0) (get_or y k 0)
unfolding both_out
both_at [] ts k = refl
both_at (s ∷ ss) [] k = sym (alone (get_or (s ∷ ss) k 0))
  where
    alone : (t : ℕ) → either_target t 0 ≡ t
    alone zero = refl
    alone (suc t) = refl
both_at (s ∷ ss) (t ∷ ts) zero = refl
both_at (s ∷ ss) (t ∷ ts) (suc k) = both_at ss ts k

both-padded : (x y : Outs) → both_out (padded_targets x) (padded_targets y) ≡ padded_targets (both_out x y)
both-padded x y = padded-is (both_out (padded_targets x) (padded_targets y)) (both_out x y) (unfold both_out in refl)
    (λ k lt. both_at (padded_targets x) (padded_targets y) k ∙ ap₂ either_target (padded-at x k lt) (padded-at y k lt) ∙ sym (both_at x y k))

no-clash : (n : ℕ) (f g : ℕ → ℕ) → ((k : ℕ) → targets_differ (f k) (g k) ≡ false) → clash (table n f) (table n g) ≡ false
unfolding clash
no-clash zero f g h = refl
no-clash (suc n) f g h = grind (arith, h 0, no-clash n (λ k. f (suc k)) (λ k. g (suc k)) (λ k. h (suc k)))

differs-none : (s : ℕ) → targets_differ s 0 ≡ false
differs-none zero = refl
differs-none (suc s) = refl

-- two nodes clash as their first n doors do
pub clash-table : (n : ℕ) (x y : Outs) → length x ≤ n → clash (table n (λ k. get_or x k 0)) (table n (λ k. get_or y k 0)) ≡ clash x y
unfolding clash
clash-table n [] y h = no-clash n (λ k. 0) (λ k. get_or y k 0) (λ k. refl)
clash-table zero (s ∷ ss) y h = absurd (omega arith)
clash-table (suc n) (s ∷ ss) [] h = no-clash (suc n) (λ k. get_or (s ∷ ss) k 0) (λ k. 0) (λ k. differs-none (get_or (s ∷ ss) k 0))
clash-table (suc n) (s ∷ ss) (t ∷ ts) h = ap (λ q. targets_differ s t || q) (clash-table n ss ts (omega arith))

-- ---- tables
table-push : {X : Type 0} (w : ℕ) (f : ℕ → X) → table w f ++ f w ∷ [] ≡ table (suc w) f
table-push zero f = refl
table-push (suc w) f = ap (λ xs. f 0 ∷ xs) (table-push w (λ k. f (suc k)))

map-drop : {X Y : Type 0} (f : X → Y) (i : ℕ) (xs : List X) → map f (without_place i xs) ≡ without_place i (map f xs)
map-drop f i xs = ap (map f) (sym (dropped i xs)) ∙ map-append f (take i xs) (drop (suc i) xs) ∙ simp (take-map, drop-map) at (dropped i (map f xs))

length-without : {X : Type 0} (i : ℕ) (xs : List X) → i < length xs → suc (length (without_place i xs)) ≡ length xs
length-without i xs h = omega (arith, length-remove xs i h, ap length (dropped i xs))

-- a node taken out of a layer, and the place that is left at the end
drop-table : (w hi : ℕ) (M : Layer) → hi < length M → length M ≤ w → without_place hi (table w (arcs_at M)) ++ arcs_at [] 0 ∷ [] ≡ table w (arcs_at (without_place hi M))
unfolding without_place
drop-table w hi [] h le = absurd (omega arith)
drop-table zero hi (nd ∷ M) h le = absurd (omega arith)
drop-table (suc w) zero (nd ∷ M) h le =
    ap (λ (x : Outs). table w (arcs_at M) ++ record { to = padded_targets x } ∷ []) (sym (get_or_past M w [] (omega arith))) ∙ table-push w (arcs_at M)
drop-table (suc w) (suc hi) (nd ∷ M) h le = ap (λ xs. arcs_at (nd ∷ M) 0 ∷ xs) (drop-table w hi M (omega arith) (omega arith))

-- another node at a place of a layer
set-table : (w lo : ℕ) (M : Layer) (nd : Outs) → lo < length M → length M ≤ w → set (table w (arcs_at M)) lo (record { to = padded_targets nd }) ≡ table w (arcs_at (set M lo nd))
set-table w lo [] nd lt le = absurd (omega arith)
set-table zero lo (x ∷ M) nd lt le = absurd (omega arith)
set-table (suc w) zero (x ∷ M) nd lt le = refl
set-table (suc w) (suc lo) (x ∷ M) nd lt le = ap (λ xs. arcs_at (x ∷ M) 0 ∷ xs) (set-table w lo M nd (omega arith) (omega arith))

module _ {S V : Type 0} where
  -- ---- lengths
  layer-long : (lo hi : ℕ) (us : List (Node S V)) (z : Node S V) → hi < length us → length (joined_layer lo hi us z) ≡ length us
  unfolding joined_layer
  layer-long lo hi us z lt =
      let x = joined_node (get_or us lo z) (get_or us hi z) in
      omega (arith, length_push (without_place hi (set us lo x)) z, length-without hi (set us lo x) (omega (arith, length-set us lo x)), length-set us lo x)

  pub join-tail : (n w d lo hi : ℕ) (z : Node S V) (xs : List (Node S V)) → suc d < n → hi < w → n * w + 1 ≤ length xs
      → drop (n * w + 1) (take (d * w) xs ++ joined_second w lo hi (drop (d * w) xs) z) ≡ drop (n * w + 1) xs
  unfolding joined_second
  join-tail n w d lo hi z xs deep lt le =
      let fit = two-fit w d n deep in
      let ys = drop (d * w) xs in
      let many : length (map (moved_node lo hi) (take w ys)) ≡ w = simp length-map (length-take-le w ys (omega (arith, length-drop (d * w) xs))) in
      let wide : length (take w (drop w ys)) ≡ w = length-take-le w (drop w ys) (omega (arith, length-drop w ys, length-drop (d * w) xs)) in
      let long : length (joined_layer lo hi (take w (drop w ys)) z) ≡ w = layer-long lo hi (take w (drop w ys)) z (omega arith) ∙ wide in
      same_lists _ _ (simp (length-drop, length-append, length-take) (omega (arith, many, simp length-append at long))) (λ k v h. grind (arith, places, many, long))

  -- ---- the arcs
  layer-arranged : (w lo hi : ℕ) (z : Node S V) (M : Layer) (us : List (Node S V)) → lo < hi → hi < length M → length M ≤ w → z.arcs ≡ arcs_at [] 0 → map arcs_of us ≡ table w (arcs_at M)
      → map arcs_of (joined_layer lo hi us z) ≡ table w (arcs_at (without_place hi (set M lo (both_out (node M lo) (node M hi)))))
  unfolding joined_layer joined_node
  layer-arranged w lo hi z M us lt in' le bare e =
      let x = joined_node (get_or us lo z) (get_or us hi z) in
      let nd = both_out (node M lo) (node M hi) in
      let both : both_out (targets (get_or us lo z)) (targets (get_or us hi z)) ≡ padded_targets nd =
      ap₂ both_out (targets-arranged w M us lo z e (omega arith)) (targets-arranged w M us hi z e (omega arith)) ∙ both-padded (node M lo) (node M hi) in
      let is : x.arcs ≡ record { to = padded_targets nd } = ap (λ (ts : List ℕ). record { to = ts }) both in
      map_push arcs_of (without_place hi (set us lo x)) z
      ∙ ap₂ (λ (xs : List Arcs) (a : Arcs). xs ++ a ∷ [])
      (map-drop arcs_of hi (set us lo x) ∙ ap (without_place hi) (map-set arcs_of us lo x ∙ ap₂ (λ (xs : List Arcs) (a : Arcs). set xs lo a) e is ∙ set-table w lo M nd (omega arith) le))
      bare
      ∙ drop-table w hi (set M lo nd) (omega (arith, length-set M lo nd)) (omega (arith, length-set M lo nd))

  join_first : (w lo hi : ℕ) (z : Node S V) (Ls : Net) (ys : List (Node S V)) → Good w Ls → 1 < length Ls → lo < hi → hi < length (get_or Ls 1 []) → z.arcs ≡ arcs_at [] 0
      → Arranged w Ls ys → Arranged w (joined_arcs 0 lo hi Ls) (joined_second w lo hi ys z)
  unfolding joined_arcs joined_second moved_node moved_to
  join_first w lo hi z [] ys good deep lt in' bare arr = absurd (omega arith)
  join_first w lo hi z (L ∷ []) ys good deep lt in' bare arr = absurd (omega arith)
  join_first w lo hi z (L ∷ M ∷ Ls) ys good deep lt in' bare arr =
      let us = take w ys in
      let vs = take w (drop w ys) in
      let A = map (moved_node lo hi) us in
      let B = joined_layer lo hi vs z in
      let C = drop w (drop w ys) in
      let room : length M ≤ w = good.3.1 in
      let many : length A ≡ w = length-map us (moved_node lo hi) ∙ arranged-long w L us arr.0 in
      let wide : length vs ≡ w = arranged-long w M vs arr.1.0 in
      let more : length B ≡ w = layer-long lo hi vs z (omega arith) ∙ wide in
      let back : drop w (A ++ (B ++ C)) ≡ B ++ C = drop_at A (B ++ C) w many in (
        ap (map arcs_of) (take_at A (B ++ C) w many) ∙ redirect-arranged w L us (λ u. moved_to lo hi) (λ a j b. suc (place_after_join lo hi b)) good.1 arr.0 (λ x a j b less t. refl),
        (
          ap (λ zs. map arcs_of (take w zs)) back ∙ ap (map arcs_of) (take_at B C w more) ∙ layer-arranged w lo hi z M vs lt in' room bare arr.1.0,
          subst (Arranged w Ls) (sym (ap (drop w) back ∙ drop_at B C w more)) arr.1.1,
        ),
      )

  -- the records of the net, joined, are those of the joined net
  pub join-arranged : (w d lo hi : ℕ) (z : Node S V) (Ls : Net) (xs : List (Node S V))
      → Good w Ls → suc d < length Ls → lo < hi → hi < length (get_or Ls (suc d) []) → z.arcs ≡ arcs_at [] 0 → Arranged w Ls xs
      → Arranged w (joined_arcs d lo hi Ls) (take (d * w) xs ++ joined_second w lo hi (drop (d * w) xs) z)
  unfolding joined_arcs
  join-arranged w zero lo hi z Ls xs good deep lt in' bare arr = let none = zero-mul w in rw none (join_first w lo hi z Ls xs good deep lt in' bare arr)
  join-arranged w (suc d) lo hi z [] xs good deep lt in' bare arr = absurd (omega arith)
  join-arranged w (suc d) lo hi z (L ∷ Ls) xs good deep lt in' bare arr =
      step-deeper w d L (joined_arcs d lo hi Ls) (λ ys. joined_second w lo hi ys z) xs arr.0 (join-arranged w d lo hi z Ls (drop w xs) good.3 (omega arith) lt in' bare arr.1)
