-- What is seen of all doors at once, looked at for two doors.
use Rattle.std.proofs.Common.{◌≡◌, ℕ, zero, suc, ◌+◌, ◌-◌, ◌^◌, ◌<◌, Bool, true, false, ◌&&◌, ◌||◌, ◌==◌, List, [], ◌∷◌, length, get_or, map, set, replicate, bit_or, refl, arith}
use Rattle.std.proofs.lemmas.Bool.Decides.{nat_tests}
use Rattle.std.proofs.lemmas.Grind.{common_steps, elements}
use Rattle.std.proofs.lemmas.List.{get_or_past, length-map, map-set}
use Rattle.std.proofs.Math.ListN.{get_or-map}
use Rattle.std.proofs.lemmas.Nat.Bits.{bit_at_or, bit_at-lt, bit_at-zero, bit_at-pow_same, bit_at-pow_other}
use Rattle.doors.specs.Sets.{has}
use Rattle.layers.specs.declared.node.Node.{Node}
use Rattle.seek.specs.declared.onward.Onward.{Onward}
use Rattle.seek.specs.declared.seen.Seen.{Seen}
use Rattle.seek.specs.Rows.{none, nothing, view, views, through, either}
use Rattle.seek.proofs.Places.{IsRow}
use Rattle.seek.proofs.Paths.{Reached, reached-end}

-- ---- members of sets, as tests

pub has_none : (i : ℕ) → has 0 i ≡ false
has_none i = grind (arith, nat_tests, bit_at-zero i)

pub has-or : (a b i : ℕ) → has (bit_or a b) i ≡ (has a i || has b i)
has-or a b i = grind (arith, nat_tests, bit_at_or a b i, bit_at-lt a i, bit_at-lt b i)

pub has_one : (d i : ℕ) → has (2 ^ d) i ≡ i == d
has_one d i = grind (arith, nat_tests, bit_at-pow_same d, bit_at-pow_other d i)

-- ---- over one more arc

-- the doors after j, once those of s come after d too
after-added : (i j d s : ℕ) (A B C : List ℕ) → d < length C → ((q : ℕ) → get_or C q 0 ≡ bit_or (get_or A q 0) (get_or B q 0))
    → has (get_or (set C d (bit_or (get_or C d 0) s)) j 0) i ≡ (has (get_or A j 0) i || (has (get_or B j 0) i || (j == d && has s i)))
after-added i j d s A B C l h = grind (arith, nat_tests, elements, h j, has-or)

-- the doors on some path, once d is on one
some-added : (i d a b : ℕ) → has (bit_or (bit_or a b) (2 ^ d)) i ≡ (has a i || (has b i || (i == d && true)))
some-added i d a b = grind (arith, nat_tests, has-or, has_one)

module _ (i j d : ℕ) (old below : Onward) (C : List ℕ) (l : d < length C) (h : (q : ℕ) → get_or C q 0 ≡ bit_or (get_or old.after q 0) (get_or below.after q 0)) where
  pub added-ends : (s : ℕ) → below.ends ≡ true → s ≡ bit_or (bit_or old.some below.some) (2 ^ d)
      → view i j (record { ends = true; some = s; after = set C d (bit_or (get_or C d 0) below.some) }) ≡ either (view i j old) (through i j d (view i j below))
  added-ends s e f =
      let a = after-added i j d below.some old.after below.after C l h in
      let b = some-added i d old.some below.some in
      grind (arith, nat_tests)

  pub added-none : below.ends ≡ false
      → view i j (record { ends = old.ends; some = bit_or old.some below.some; after = set C d (bit_or (get_or C d 0) below.some) }) ≡ either (view i j old) (through i j d (view i j below))
  added-none e =
      let a = after-added i j d below.some old.after below.after C l h in
      let b = has-or old.some below.some i in
      grind (arith, nat_tests)

-- ---- nothing

view-blank : (i j : ℕ) (e : Bool) → view i j (record nothing { ends = e }) ≡ record { ends = e; one = false; both = false }
view-blank i j e = grind (arith, common_steps, has_none i)

views-none : (i j m t : ℕ) → get_or (map (view i j) (replicate m nothing)) t none ≡ none
views-none i j m t = grind (arith, common_steps, get_or-map (view i j) (replicate m nothing) t nothing, view-blank i j false)

-- ---- rows

-- a row of nothing
pub views-start : (i j m : ℕ) → IsRow (views i j (replicate m nothing)) []
views-start i j m zero = refl
views-start i j m (suc t) = views-none i j m t

-- one place more
pub views-set : (i j a : ℕ) (row : List Onward) (s : Onward) → views i j (set row a s) ≡ set (views i j row) (a + 1) (view i j s)
views-set i j a row s = grind (arith, map-set)

-- the row of the end
pub views-reached : {S V : Type 0} (i j n w : ℕ) (xs : List (Node S V)) (m : ℕ) → Reached i j n w xs (views i j (record nothing { ends = true } ∷ replicate m nothing)) n
views-reached i j n w xs m = reached-end i j n w xs _ _ (view-blank i j true) (views-none i j m)

-- ---- targets

-- target number t is the node at place t - 1
pub view-target : (i j : ℕ) (row : List Onward) (t : ℕ) → 0 < t → get_or (views i j row) t none ≡ view i j (get_or row (t - 1) (record { ends = false; some = 0; after = [] }))
view-target i j row t l = grind (arith, get_or-map (view i j) row (t - 1) (record { ends = false; some = 0; after = [] }), has_none i)

-- over an arc to no place nothing more is seen
pub over-none : (i j d : ℕ) (row : List Onward) (t : ℕ) (x : Seen) → (0 < t → length row < t) → either x (through i j d (get_or (views i j row) t none)) ≡ x
over-none i j d row t x h = grind (arith, nat_tests, get_or_past (map (view i j) row) (t - 1) none, length-map row (view i j))
