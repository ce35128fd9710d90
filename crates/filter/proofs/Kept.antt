-- A filter takes out arcs and adds none: none goes exactly if as many are left.
use Rattle.std.proofs.Common.{◌≡◌, ℕ, zero, suc, ◌+◌, ◌-◌, ◌*◌, ◌≤◌, Bool, ◌&&◌, eqb, List, [], ◌∷◌, map, length, take, drop, Option, ◌⊎◌, inl, inr, refl, sym, ap, ◌∙◌, ap₂, arith}
use Rattle.std.specs.List.{list_all}
use Rattle.std.proofs.lemmas.Bool.Decides.{nat_tests}
use Rattle.std.proofs.lemmas.List.Sums.{sum_by-cons, sum_by-take-drop}
use Rattle.layers.specs.declared.node.Node.{Node}
use Rattle.layers.specs.declared.node.Down.{Down}
use Rattle.layers.specs.declared.node.Up.{Up}
use Rattle.layers.specs.Net.{each_door, count_doors}
use Rattle.layers.specs.Records.{nodes_in}
use Rattle.layers.specs.Targets.{targets, with_targets, redirected}
use Rattle.layers.proofs.Tied.{each_door-length}
use Rattle.tidying.specs.Counted.{arcs_of, arcs_within}
use Rattle.tidying.proofs.InUse.{nodes-first}
use Rattle.tidying.proofs.Targets.{layer-less, length-targets, targets_read}
use Rattle.filter.specs.Kept.{kept_to, kept_node, kept_from, stays, all_stay}
use Rattle.filter.specs.Steps.{arc_count, none_goes}
use Rattle.filter.proofs.Doors.{left-or-none}
use Rattle.filter.proofs.KeptNet.{kept-tail}

-- ---- sums that are the same
pub sums-same : (a b x y : ℕ) → a + y ≡ b + x → eqb a b ≡ eqb x y
sums-same a b x y e = grind (arith, nat_tests)

both-none : (a b g : ℕ) → a ≤ b → eqb a b && eqb g 0 ≡ eqb (b - a + g) 0
both-none a b g h = grind (arith, nat_tests)

sum-none : (g h : ℕ) → eqb g 0 && eqb h 0 ≡ eqb (g + h) 0
sum-none g h = grind (arith, nat_tests)

-- ---- nodes
door-count : {S V : Type 0} (y : Node S V) → arcs_of y ≡ count_doors (targets y)
unfolding arcs_of
door-count y = refl

doors-fewer : (f : ℕ → ℕ → ℕ) (j : ℕ) (ts : List ℕ) → count_doors (each_door f j ts) ≤ count_doors ts
unfolding count_doors each_door
doors-fewer f j [] = omega arith
doors-fewer f j (zero ∷ ts) = doors-fewer f (suc j) ts
doors-fewer f j (suc b ∷ ts) = grind (arith, doors-fewer f (suc j) ts)

-- each arc goes or stays: if as many are left, all stay
doors-same : (f : ℕ → ℕ → ℕ) → ((j b : ℕ) → (f j b ≡ 0) ⊎ (f j b ≡ suc b)) → (j : ℕ) (ts : List ℕ) → count_doors (each_door f j ts) ≡ count_doors ts → each_door f j ts ≡ ts
unfolding count_doors each_door
doors-same f one j [] e = refl
doors-same f one j (zero ∷ ts) e = ap (λ ts. zero ∷ ts) (doors-same f one (suc j) ts e)
doors-same f one j (suc b ∷ ts) e = elim (one j b) [
  | inl gone ↦ absurd (let less = doors-fewer f (suc j) ts in omega (arith, less, e, ap (λ (t : ℕ). count_doors (t ∷ each_door f (suc j) ts)) gone))
  | inr stays ↦ (let same = ap (λ (t : ℕ). count_doors (t ∷ each_door f (suc j) ts)) stays in
      rw stays (ap (λ ts. suc b ∷ ts) (doors-same f one (suc j) ts (omega (arith, e, same)))))
]

-- ---- a filter
module _ {S V : Type 0} (goes : ℕ → ℕ → ℕ → Option (Down S V) → Option Up → Bool) where
  pub node-fewer : (i h : ℕ) (vs : List (Node S V)) (u : Node S V) → arcs_of (kept_node goes i h vs u) ≤ arcs_of u
  unfolding kept_node redirected
  node-fewer i h vs u =
      let f = kept_to goes i h vs u in
      let y = with_targets u (each_door f 1 (targets u)) in
      omega (arith, door-count y, ap count_doors (targets_read y (each_door-length f 1 (targets u) ∙ length-targets u)), door-count u, doors-fewer f 1 (targets u))

  -- a node that keeps all its arcs stays as it is
  pub node-same : (i h : ℕ) (vs : List (Node S V)) (u : Node S V) → length u.arcs.to ≡ 16 → arcs_of (kept_node goes i h vs u) ≡ arcs_of u → kept_node goes i h vs u ≡ u
  unfolding kept_node redirected
  node-same i h vs u long e =
      let f = kept_to goes i h vs u in
      let y = with_targets u (each_door f 1 (targets u)) in
      let read = ap count_doors (targets_read y (each_door-length f 1 (targets u) ∙ length-targets u)) in
      ap (with_targets u) (doors-same f (λ j b. left-or-none goes i h vs u j (suc b)) 1 (targets u) (omega (arith, e, door-count y, read, door-count u)) ∙ targets_read u long)

  -- how many arcs go of some nodes, and of some layers; none goes exactly if it is 0
  nodes-gone : (i h : ℕ) (vs us : List (Node S V)) → (g : ℕ) × (g + arcs_within (map (kept_node goes i h vs) us) ≡ arcs_within us) × (list_all (stays goes i h vs) us ≡ eqb g 0)
  unfolding stays
  nodes-gone i h vs [] = (0, omega arith, refl)
  nodes-gone i h vs (u ∷ us) =
      let q = nodes-gone i h vs us in
      let f = kept_node goes i h vs in
      let few = node-fewer i h vs u in
      (arcs_of u - arcs_of (f u) + q.0, omega (arith, few, q.1, sum_by-cons arcs_of u us, sum_by-cons arcs_of (f u) (map f us)), ap (λ b. eqb (arcs_of (f u)) (arcs_of u) && b) q.2 ∙ both-none (arcs_of (f u)) (arcs_of u) q.0 few)

  pub layers-gone : (w i k : ℕ) (xs : List (Node S V)) → (g : ℕ) × (g + arcs_within (kept_from goes w i k xs) ≡ arcs_within xs) × (all_stay goes w i k xs ≡ eqb g 0)
  unfolding kept_from all_stay
  layers-gone w i zero xs = (0, omega arith, refl)
  layers-gone w i (suc k) xs =
      let us = take w xs in
      let p = nodes-gone i (suc k) (drop w xs) (nodes_in us) in
      let q = layers-gone w (suc i) k (drop w xs) in
      (p.0 + q.0, layer-less w (length (nodes_in us)) p.0 q.0 xs us (drop w xs) (map (kept_node goes i (suc k) (drop w xs)) (nodes_in us)) (kept_from goes w (suc i) k (drop w xs)) refl refl (p.1 ∙ ap arcs_within (sym (nodes-first us))) q.1, ap₂ ◌&&◌ p.2 q.2 ∙ sum-none p.0 q.0)

-- the arcs of a diagram, and of what stands after its layers
pub count-whole : {S V : Type 0} (n W : ℕ) (xs : List (Node S V)) → arcs_within xs ≡ arc_count n W xs + arcs_within (drop (n * W) xs)
unfolding arc_count
count-whole n W xs = sym (sum_by-take-drop arcs_of xs (n * W))

-- none goes exactly when as many arcs are left in the whole list
pub none-counted : {S V : Type 0} (goes : ℕ → ℕ → ℕ → Option (Down S V) → Option Up → Bool) (n W : ℕ) (xs : List (Node S V)) → n * W + 1 ≤ length xs → (ys : List (Node S V)) → ys ≡ kept_from goes W 0 n xs
    → (gone : ℕ) → gone + arcs_within ys ≡ arcs_within xs → none_goes goes n W xs ≡ eqb gone 0
unfolding none_goes
none-counted goes n W xs enough ys is gone less =
    let tail = (kept-tail n goes W 0 n xs (omega (arith, enough))).1 in
    let zs = kept_from goes W 0 n xs in
    sums-same (arc_count n W zs) (arc_count n W xs) 0 gone (omega (arith, ap arcs_within is, less, count-whole n W zs, count-whole n W xs, ap arcs_within tail)) ∙ grind (arith, nat_tests)
