-- What climbs to a node over its arcs, of the upward labels of the layer after it: the arcs and the node's last places decide it.
use Rattle.std.proofs.Common.{◌≡◌, ℕ, zero, suc, ◌+◌, ◌-◌, ◌<◌, ◌≤◌, Bool, cond, List, [], ◌∷◌, ◌++◌, map, length, get_or, take, drop, Some, None, Option, sym, refl, ap, ◌∙◌, ap₂, zero-add, add-one, arith}
use Rattle.std.specs.Prelude.{ℤ, pos, negsuc, ◌-ℤ◌, ◌≤ℤ◌, bit_or}
use Rattle.std.specs.Int.{w32, int_min, saturate_signed}
use Rattle.std.specs.List.{range_with_len, flat_map}
use Rattle.std.proofs.lemmas.Grind.{common_steps}
use Rattle.std.proofs.lemmas.Int.{ints, clamps}
use Rattle.std.proofs.lemmas.List.{drop_more, get_or_past, take-map, drop-map}
use Rattle.std.proofs.lemmas.Simd.{map-map}
use Rattle.std.proofs.lemmas.Bool.{ne_eqb}
use Rattle.round.specs.Clock.{door}
use Rattle.round.specs.declared.table.Round.{Round}
use Rattle.layers.specs.declared.node.Arcs.{Arcs}
use Rattle.layers.specs.declared.node.Node.{Node}
use Rattle.layers.specs.declared.node.Down.{Down}
use Rattle.layers.specs.declared.node.Up.{Up}
use Rattle.layers.specs.Net.{Layer, node, target}
use Rattle.layers.specs.Flow.{gather, read, cons_if_some, climbs_of}
use Rattle.layers.specs.Labels.{bit_of, leg, late_over, climb, merge_up, no_up}
use Rattle.layers.specs.Records.{padded_targets}
use Rattle.layers.proofs.Flows.{table_at}
use Rattle.layers.proofs.Model.{or_no_up}
use Rattle.labels.specs.Passes.{with_up, numbered, held_late, climb_held, up_by, gathered_up}
use Rattle.labels.proofs.Folds.{by-doors}
use Rattle.labels.proofs.Legs.{leg_most}

-- ---- the last minute to leave: held in 32 bits, it is what it would be
-- low enough for every record of a diagram
abbrev pub Held : ℤ → Type 0
Held t = negsuc 39999 ≤ℤ t

held-late : (c g : ℕ) (t : ℤ) → c ≤ 9999 → g ≤ 1998 → Held t → saturate_signed w32 (int_min (pos c) t -ℤ pos g) ≡ int_min (pos c) t -ℤ pos g
held-late c g t a b h = grind (arith, ints, clamps)

pub climb-is : (r : Round) (m : ℕ) (u : Up) (j : ℕ) → Held u.late → climb_held r (leg r m j) u j ≡ climb r m u j
unfolding held_late late_over
climb-is r m u j h =
    ap (λ (z : ℤ). record { allup = bit_or u.allup (bit_of j); someup = bit_or u.someup (bit_of j); late = z })
    (held-late (door r j).closes ((door r j).work + leg r m j) u.late (r.closes j) (omega (arith, r.work j, leg_most r m j)) h)

-- ---- over one door: what climbs from the labels with that number
abbrev pub climbing : Round → ℕ → List Up → List ℕ → ℕ → List Up
climbing r m V to k = map (λ v. climb_held r (leg r m (k + 1)) v (k + 1)) (numbered (get_or to k 0) V)

-- what a record with these last places and targets gathers
abbrev pub climbed : Round → ℕ → List Up → List ℕ → Up
climbed r m V to = gathered_up (flat_map (climbing r m V to) (range_with_len 0 16))

gathered_up-is : (xs : List Up) → gathered_up xs ≡ or_no_up (gather merge_up xs)
unfolding gathered_up gather
gathered_up-is [] = refl
gathered_up-is (x ∷ xs) = refl

pub numbered-at : {X : Type 0} (b : ℕ) (vs : List X) (d : X) → b < length vs → numbered (suc b) vs ≡ get_or vs b d ∷ []
numbered-at b vs d h =
    let less : suc b - 1 ≡ b = omega arith in
    ap (λ (q : Bool). cond q [] (take 1 (drop (suc b - 1) vs))) (ne_eqb (suc b) 0 (λ e. omega arith))
    ∙ ap (λ (k : ℕ). take 1 (drop k vs)) less ∙ ap (take 1) (drop_more vs b d h)

-- the labels with the number suc b are those that the net gives
abbrev pub Linked : List (Option Up) → List Up → ℕ → Type 0
Linked us V b = (b < length V) × (get_or us b None ≡ Some (get_or V b no_up)) × Held (get_or V b no_up).late

climb-step : (r : Round) (m : ℕ) (us : List (Option Up)) (V : List Up) (to : List ℕ) (k t : ℕ) (rest : List Up) → get_or to k 0 ≡ t → ((b : ℕ) → t ≡ suc b → Linked us V b)
    → climbing r m V to k ++ rest ≡ cons_if_some (climb r m) (suc k) (read us t) rest
climb-step r m us V to k zero rest e g = rw e refl
climb-step r m us V to k (suc b) rest e g =
    let l = g b refl in rw (e, numbered-at b V no_up l.0, l.1, add-one k) (ap (λ x. x ∷ rest) (climb-is r m (get_or V b no_up) (suc k) l.2))

-- at a place of a layer, in use or not: what the net says, where these are the upward labels after it
pub node-climbed : (r : Round) (m : ℕ) (L : Layer) (us : List (Option Up)) (V : List Up) (a : ℕ) → length (node L a) ≤ 16 → ((j b : ℕ) → target (node L a) j ≡ suc b → Linked us V b)
    → climbed r m V (padded_targets (node L a)) ≡ or_no_up (gather merge_up (climbs_of (climb r m) us 1 (node L a)))
unfolding climbs_of
node-climbed r m L us V a h g =
    let nd = node L a in
    let at : (k i : ℕ) → 0 + i ≡ k → i < 16 → get_or (padded_targets nd) k 0 ≡ get_or nd i 0 = λ k i q lt. rw (← q, zero-add i) (table_at 16 i (λ k. get_or nd k 0) 0 lt) in
    ap gathered_up (by-doors (climbing r m V (padded_targets nd)) (climbs_of (climb r m) us) nd 0 16 h (λ j. refl)
    (λ k i q ge lt. rw (at k i q lt ∙ get_or_past nd i 0 ge) refl)
    (λ k i rest q lt. climb-step r m us V (padded_targets nd) k (get_or nd i 0) (climbs_of (climb r m) us (suc (suc k)) rest) (at k i q (omega arith)) (λ b e. g (suc i) b e)))
    ∙ gathered_up-is (climbs_of (climb r m) us 1 nd)

-- ---- of records
-- two ways to climb that are the same door by door
pub doors-same : {X : Type 0} (F G : ℕ → List X) (a m : ℕ) → ((k : ℕ) → k < a + m → F k ≡ G k) → flat_map F (range_with_len a m) ≡ flat_map G (range_with_len a m)
doors-same F G a zero h = refl
doors-same F G a (suc m) h = ap₂ (λ xs ys. xs ++ ys) (h a (omega arith)) (doors-same F G (a + 1) m (λ k lt. h k (omega arith)))

numbered-map : {X Y : Type 0} (f : X → Y) (t : ℕ) (vs : List X) → map f (numbered t vs) ≡ numbered t (map f vs)
numbered-map f t vs = grind (arith, common_steps, take-map, drop-map)

module _ {S V : Type 0} where
  abbrev pub arcs_of : Node S V → Arcs
  arcs_of x = x.arcs

  abbrev pub down_of : Node S V → Down S V
  down_of x = x.label.down

  abbrev pub up_of : Node S V → Up
  up_of x = x.label.up

  -- a record with the upward label of a place that is not in use
  abbrev pub bare : Node S V → Node S V
  bare x = with_up x no_up

  pub climbed-is : (r : Round) (vs : List (Node S V)) (u : Node S V) → gathered_up (flat_map (up_by r vs u) (range_with_len 0 16)) ≡ climbed r u.label.down.lasts (map up_of vs) u.arcs.to
  unfolding up_by
  climbed-is r vs u =
      let m = u.label.down.lasts in
      ap gathered_up (doors-same (up_by r vs u) (climbing r m (map up_of vs) u.arcs.to) 0 16 (λ k lt.
      let f : Up → Up = λ v. climb_held r (leg r m (k + 1)) v (k + 1) in
      sym (map-map f up_of (numbered (get_or u.arcs.to k 0) vs)) ∙ ap (map f) (numbered-map up_of (get_or u.arcs.to k 0) vs)))
