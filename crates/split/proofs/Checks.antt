-- What the checks before a call find, a call that is not refused, and one that is
use Rattle.std.proofs.Common.{refl, ◌≡◌, ℕ, ◌≤◌, not, eqb, List, [], ◌∷◌, length, take, drop, arith, ◌+◌, ◌-◌, ◌*◌, ◌<◌, Bool, true, false, is_ok, Ok, Err, mul-le-mul, None, MatchResult, sym, suc, min, max, leb, ap, ◌∙◌}
use Rattle.std.specs.List.{prefix_len}
use Rattle.std.proofs.lemmas.List.{length-take}
use Rattle.layers.specs.declared.node.Node.{Node}
use Rattle.layers.specs.Records.{nodes_in}
use Rattle.layers.proofs.Shaped.{standing-short}
use Rattle.split.specs.Steps.{node_count, and_then, place_check, node_check, pair_check, join_check, group_check, alike, parted_one, part_check, part_steps, joined_one, join_steps}
use Rattle.std.specs.Prelude.{if◌then◌else◌}
use Rattle.std.proofs.lemmas.Bool.Decides.{nat_tests}
use Rattle.layers.specs.Calls.{Outcome}
use Rattle.split.specs.Asked.{Placed, MayJoin, Numbered}
use Rattle.split.proofs.DepthNet.{two-fit}
use Rattle.std.proofs.lemmas.Bool.{eqb-false, and_from, le-leb}
use Rattle.layers.specs.declared.node.Down.{Down}
use Rattle.layers.specs.Labels.{all_agree, first_arrival}
use Rattle.layers.specs.Settings.{Setting}
use Rattle.layers.specs.declared.refusal.Refusal.{Refusal}
use Rattle.labels.specs.Passes.{fits, relabelled}

pub standing-counted : {S V : Type 0} (us : List (Node S V)) → prefix_len (λ (u : Node S V). not (eqb u.label.down.lasts 0)) us ≡ length (nodes_in us)
standing-counted [] = refl
standing-counted (x ∷ xs) = grind (arith, standing-counted xs)

-- at most w
pub count_most : {S V : Type 0} (at w : ℕ) (xs : List (Node S V)) → node_count at w xs ≤ w
count_most at w xs = omega (arith, standing-short (take w (drop at xs)), length-take w (drop at xs))

-- a layer that passes, and the one before it, lie within the list
pub place_clear : (n w long i : ℕ) → n ≤ 16 → place_check n w long i ≡ Ok tt → Placed n w long i
place_clear n w long i most e =
    let few : w ≤ 128 = grind (arith, nat_tests) in
    let fit : n * w + 1 ≤ long = grind (arith, nat_tests) in
    let low : 1 ≤ i = grind (arith, nat_tests) in
    let high : i < n = grind (arith, nat_tests) in
    let within : (i - 1) * w + w + w ≤ n * w = two-fit w (i - 1) n (omega arith) in
    let all : n * w ≤ 16 * 128 = mul-le-mul most few in
    record {
      clear = e;
      some = grind (arith, nat_tests);
      few = few;
      fit = fit;
      low = low;
      high = high;
      two_in_bounds = omega arith;
      small = omega arith;
    }

-- what two calls leave that answer the same
pub same_check : {A : Type 0} (k l : Outcome) (x y z : A) → k ≡ l → (k ≡ Ok tt → x ≡ y) → (if is_ok k then x else z) ≡ (if is_ok l then y else z)
same_check (Ok u) l x y z e f = rw (← e) (f refl)
same_check (Err f) l x y z e g = rw (← e) refl

pub passed : (k : Outcome) → is_ok k ≡ true → k ≡ Ok tt
passed (Ok u) e = refl
passed (Err f) e = cc

-- what the checks before a join tell, if they are passed
pub pair-clear : (p : Outcome) (m a b : ℕ) (same apart : Bool) → and_then p (and_then (node_check m a) (and_then (node_check m b) (pair_check same apart))) ≡ Ok tt
    → (p ≡ Ok tt) × (1 ≤ a) × (a ≤ m) × (1 ≤ b) × (b ≤ m) × (same ≡ false) × (apart ≡ false)
pair-clear (Ok u) m a b same apart e = (refl, grind (arith, nat_tests), grind (arith, nat_tests), grind (arith, nat_tests), grind (arith, nat_tests), grind (arith, nat_tests), grind (arith, nat_tests))
pair-clear (Err f) m a b same apart e = cc

module _ {S V : Type 0} (by : Setting S V) where
  pub none-agree : (ys : List (Down S V)) → None ≡ first_arrival ys → all_agree by.rule ys ≡ true
  unfolding all_agree
  none-agree [] e = refl
  none-agree (y ∷ ys) e = absurd (grind arith)

  -- nodes that pass can be joined
  pub join-clear : (i a b : ℕ) (xs : List (Node S V)) → join_check by i a b xs ≡ Ok tt → MayJoin by i a b xs
  unfolding join_check
  join-clear i a b xs is =
      let p = pair-clear _ _ a b _ _ is in
      record {
        clear = is;
        placed = place_clear by.round.n by.width (length xs) i by.round.most p.0;
        low_a = p.1;
        high_a = p.2;
        low_b = p.3;
        high_b = p.4;
        apart = eqb-false a b p.5;
        calm = p.6;
      }

  pub join-found : (i a b : ℕ) (xs : List (Node S V)) (o : Outcome) → o ≡ join_check by i a b xs → MatchResult o (λ _. MayJoin by i a b xs) (λ e. join_check by i a b xs ≡ Err e)
  join-found i a b xs (Ok u) e = join-clear i a b xs (sym e)
  join-found i a b xs (Err f) e = sym e

pub placed-room : (n w long i : ℕ) → Placed n w long i → fits n w long ≡ true
placed-room n w long i p = and_from _ _ (le-leb 1 w p.some) (and_from _ _ (le-leb w 128 p.few) (le-leb (n * w + 1) long p.fit))

-- the layer at k * w and the next lie within the list
pub layer-within : (n w long k : ℕ) → n * w + 1 ≤ long → suc k < n → k * w + w + w ≤ long
layer-within n w long k fit lt = omega (arith, two-fit w k n lt)

pub layer-small : (n w k : ℕ) → n ≤ 16 → w ≤ 128 → suc k < n → k * w + w + w ≤ 2048
layer-small n w k h few lt = let most : n * w ≤ 16 * 128 = mul-le-mul h few in omega (arith, two-fit w k n lt)

module _ {S V : Type 0} (by : Setting S V) (i : ℕ) (xs : List (Node S V)) where
  -- labels worked out anew, in a list that fits
  relabel-done : (ys zs : List (Node S V)) → Placed by.round.n by.width (length xs) i → length ys ≡ length xs → zs ≡ (if fits by.round.n by.width (length ys) then relabelled by ys else ys) → zs ≡ relabelled by ys
  relabel-done ys zs p same is = is ∙ rw (same, placed-room by.round.n by.width (length xs) i p) refl

  -- the check of a node that a layer has
  pub part-check-is : (a m : ℕ) → Placed by.round.n by.width (length xs) i → m ≡ node_count ((i - 1) * by.width + by.width) by.width xs → Numbered m a
      → part_check by i a xs ≡ group_check (alike by ((i - 1) * by.width) (suc (a - 1)) xs) (leb by.width m)
  unfolding part_check
  part-check-is a m p em n =
      let back : a ≡ suc (a - 1) = omega (arith, n.low) in
      rw (p.clear, ← em, n.clear) (ap (λ (t : ℕ). group_check (alike by ((i - 1) * by.width) t xs) (leb by.width m)) back)

  pub part-refused : (a : ℕ) (e : Refusal) → part_check by i a xs ≡ Err e → xs ≡ part_steps by i a xs
  unfolding part_steps
  part-refused a e h = rw h refl

  pub part-done : (a : ℕ) (ys zs : List (Node S V)) → Placed by.round.n by.width (length xs) i → part_check by i a xs ≡ Ok tt → length ys ≡ length xs
      → ys ≡ parted_one by ((i - 1) * by.width) (a - 1) (node_count ((i - 1) * by.width + by.width) by.width xs) xs → zs ≡ (if fits by.round.n by.width (length ys) then relabelled by ys else ys) → zs ≡ part_steps by i a xs
  unfolding part_steps
  part-done a ys zs p clear same made is = rw (clear, ← made) (relabel-done ys zs p same is)

  pub join-done : (a b : ℕ) (ys zs : List (Node S V)) → Placed by.round.n by.width (length xs) i → join_check by i a b xs ≡ Ok tt → length ys ≡ length xs
      → ys ≡ joined_one by ((i - 1) * by.width) (min a b - 1) (max a b - 1) xs → zs ≡ (if fits by.round.n by.width (length ys) then relabelled by ys else ys) → zs ≡ join_steps by i a b xs
  unfolding join_steps
  join-done a b ys zs p clear same made is = rw (clear, ← made) (relabel-done ys zs p same is)
