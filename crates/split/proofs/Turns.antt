-- Parting the nodes of a layer, one after another
use Rattle.std.proofs.Common.{◌≡◌, ℕ, zero, suc, ◌+◌, ◌-◌, add-one, ◌<◌, ◌≤◌, Bool, true, false, leb, List, ◌++◌, length, take, drop, Ok, Err, ◌≢◌, sym, refl, ap, ◌∙◌, ap₂, arith}
use Rattle.std.proofs.lemmas.List.{take_at, drop_at, take-append-drop, drop-drop, length-append, length-map, length-take-le}
use Rattle.std.proofs.lemmas.Bool.{le-leb, lt-leb}
use Rattle.std.proofs.lemmas.Bool.Decides.{nat_tests}
use Rattle.layers.specs.declared.node.Node.{Node}
use Rattle.layers.specs.declared.refusal.Refusal.{Refusal}
use Rattle.layers.specs.declared.refusal.Refusal.TheVariants.{OneGroup, LayerFull}
use Rattle.layers.specs.Calls.{Outcome}
use Rattle.layers.specs.Records.{nodes_in}
use Rattle.split.specs.declared.listing.InArcs.{InArcs}
use Rattle.split.specs.Listed.{IsListed, written, husk, told_records}
use Rattle.split.specs.Steps.{node_count, group_check, alike, parted_one, next_records, parts_from}
use Rattle.layers.specs.Settings.{Setting}

module _ {S V : Type 0} (by : Setting S V) (at a m : ℕ) (xs : List (Node S V)) where
  -- one node: the answer, and the records
  abbrev pub Next : Outcome → List (Node S V) → Type 0
  Next o ys = (o ≡ group_check (alike by at (suc a) xs) (leb by.width m)) × (ys ≡ next_records by at a m xs)

  pub next-alike : alike by at (suc a) xs ≡ true → Next (Err OneGroup) xs
  next-alike e = rw e (refl, refl)

  pub next-full : alike by at (suc a) xs ≡ false → by.width ≤ m → Next (Err LayerFull) xs
  next-full e h = rw (e, le-leb by.width m h) (refl, refl)

  pub next-parted : alike by at (suc a) xs ≡ false → m < by.width → Next (Ok tt) (parted_one by at a m xs)
  next-parted e h = rw (e, lt-leb by.width m h) (refl, refl)

  pub next-most : (ys : List (Node S V)) → m ≤ by.width → Next (Ok tt) ys → suc m ≤ by.width
  next-most ys h n = grind (arith, nat_tests, n.0)

  -- what it leaves, by the answer
  pub next-ok : group_check (alike by at (suc a) xs) (leb by.width m) ≡ Ok tt → next_records by at a m xs ≡ parted_one by at a m xs
  next-ok e = grind (arith, e)

  pub next-err : (e : Refusal) → group_check (alike by at (suc a) xs) (leb by.width m) ≡ Err e → next_records by at a m xs ≡ xs
  next-err e h = grind (arith, h)

  -- ---- one turn, of as many as the layer has room for
  pub parts-end : m ≤ a → (false, xs) ≡ parts_from by at (by.width - a) a m xs
  unfolding parts_from
  parts-end h = go (by.width - a)
    where
      go : (k : ℕ) → (false, xs) ≡ parts_from by at k a m xs
      go zero = refl
      go (suc k) = rw (le-leb m a h) refl

  left : a < by.width → by.width - a ≡ suc (by.width - (a + 1))
  left lt = omega arith

  pub parts-full : (ys : List (Node S V)) → a < by.width → a < m → Next (Err LayerFull) ys → (true, ys) ≡ parts_from by at (by.width - a) a m xs
  unfolding parts_from
  parts-full ys lt h n = rw (left lt) (grind (arith, nat_tests, n.0, n.1))

  pub parts_more : (ys : List (Node S V)) → a < by.width → a < m → Next (Ok tt) ys → parts_from by at (by.width - (a + 1)) (a + 1) (m + 1) ys ≡ parts_from by at (by.width - a) a m xs
  unfolding parts_from
  parts_more ys lt h n = rw (left lt, add-one a, add-one m) (go (by.width - suc a))
    where
      go : (k : ℕ) → parts_from by at k (suc a) (suc m) ys ≡ parts_from by at (suc k) a m xs
      go k = grind (arith, nat_tests, n.0, n.1)

  pub parts_same : (ys : List (Node S V)) (e : Refusal) → a < by.width → a < m → e ≢ LayerFull → Next (Err e) ys → parts_from by at (by.width - (a + 1)) (a + 1) m ys ≡ parts_from by at (by.width - a) a m xs
  unfolding parts_from
  parts_same ys e lt h ne n = rw (left lt, add-one a) (go (by.width - suc a))
    where
      go : (k : ℕ) → parts_from by at k (suc a) m ys ≡ parts_from by at (suc k) a m xs
      go k = grind (arith, nat_tests, n.0, n.1)

-- ---- of a list of in-arcs that are not written back
module _ {S V : Type 0} (w : ℕ) (xs us : List (Node S V)) (list : InArcs) (front : us ≡ take w xs) (le : w ≤ length xs) (l : IsListed (take w xs) list) where
  long-written : length (written (take w xs) list) ≡ w
  long-written = sym (length-map (written (take w xs) list) husk) ∙ ap length l.husks ∙ length-map (take w xs) husk ∙ length-take-le w xs le

  pub told-head : take w (told_records w list xs) ≡ written us list
  told-head = take_at (written (take w xs) list) (drop w xs) w long-written ∙ ap (λ ys. written ys list) (sym front)

  pub told-tail : drop w (told_records w list xs) ≡ drop w xs
  told-tail = drop_at (written (take w xs) list) (drop w xs) w long-written

-- ---- the same from where the layer before begins
module _ {S V : Type 0} (by : Setting S V) (at : ℕ) where
  abbrev lift : List (Node S V) → Bool × List (Node S V) → Bool × List (Node S V)
  lift xs r = (r.0, take at xs ++ r.1)

  parted-from : (a m : ℕ) (xs : List (Node S V)) → parted_one by at a m xs ≡ take at xs ++ parted_one by 0 a m (drop at xs)
  unfolding parted_one
  parted-from a m xs = refl

  pub next_from : (a m : ℕ) (xs : List (Node S V)) → take at xs ++ next_records by 0 a m (drop at xs) ≡ next_records by at a m xs
  next_from a m xs = grind (arith, take-append-drop at xs, parted-from a m xs)

  parted-before : (a m : ℕ) (xs : List (Node S V)) → at ≤ length xs
      → (take at (parted_one by at a m xs) ≡ take at xs) × (drop at (parted_one by at a m xs) ≡ parted_one by 0 a m (drop at xs)) × (at ≤ length (parted_one by at a m xs))
  parted-before a m xs h =
      let many = length-take-le at xs h in
      rw (parted-from a m xs) (take_at (take at xs) _ at many, drop_at (take at xs) _ at many, omega (arith, many, length-append (take at xs) (parted_one by 0 a m (drop at xs))))

  pub parts-shift : (k a m : ℕ) (xs : List (Node S V)) → at ≤ length xs → parts_from by at k a m xs ≡ lift xs (parts_from by 0 k a m (drop at xs))
  unfolding parts_from
  parts-shift zero a m xs h = ap (λ ys. (false, ys)) (sym (take-append-drop at xs))
  parts-shift (suc k) a m xs h =
      let b = parted-before a m xs h in
      let stays = parts-shift k (suc a) m xs h in
      let parted = parts-shift k (suc a) (suc m) (parted_one by at a m xs) b.2 ∙ ap₂ (λ ys zs. (let r = parts_from by 0 k (suc a) (suc m) zs in (r.0, ys ++ r.1))) b.0 b.1 in
      grind (arith, take-append-drop at xs, stays, parted)

  -- the nodes of the layer, counted from there
  pub count-from : (xs : List (Node S V)) → node_count by.width by.width (drop at xs) ≡ node_count (at + by.width) by.width xs
  count-from xs = ap (λ ys. length (nodes_in (take by.width ys))) (drop-drop by.width at xs)

  pub parts-done : (r : Bool) (xs zs ys : List (Node S V)) → at ≤ length xs → zs ≡ drop at xs → (r, ys) ≡ parts_from by 0 by.width 0 (node_count by.width by.width zs) zs
      → (r, take at xs ++ ys) ≡ parts_from by at by.width 0 (node_count (at + by.width) by.width xs) xs
  parts-done r xs zs ys h same e =
      ap (lift xs) (e ∙ ap (λ vs. parts_from by 0 by.width 0 (node_count by.width by.width vs) vs) same ∙ ap (λ (m : ℕ). parts_from by 0 by.width 0 m (drop at xs)) (count-from xs))
      ∙ sym (parts-shift by.width 0 (node_count (at + by.width) by.width xs) xs h)
