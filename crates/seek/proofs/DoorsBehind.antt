-- The doors that come behind a door, door by door.
use Rattle.std.proofs.Common.{◌≡◌, ℕ, zero, suc, ◌+◌, ◌-◌, ◌<◌, ◌≤◌, ◌^◌, Bool, false, if◌then◌else◌, List, [], length, get_or, set, bit_or, sym, ap, ◌∙◌, refl, arith}
use Rattle.std.proofs.lemmas.Grind.{same_number_lists, elements}
use Rattle.std.proofs.lemmas.List.FromFn.{get_or-map-range_with_len, length-map-range_with_len}
use Rattle.std.proofs.lemmas.Bool.Decides.{nat_tests}
use Rattle.layers.specs.declared.node.Node.{Node}
use Rattle.layers.specs.Calls.{arcs, must}
use Rattle.seek.specs.Musts.{set_where, must_of, behind, musts}
use Rattle.seek.specs.declared.onward.Onward.{Onward}
use Rattle.seek.specs.declared.seen.Seen.{Seen}
use Rattle.seek.specs.Rows.{is_behind, none, views, seen_from}
use Rattle.seek.proofs.Views.{view-target}

-- one turn more of the loop over the doors
pub one_more : (p : ℕ → Bool) (j : ℕ) → 1 ≤ j → set_where p j ≡ (if p j then bit_or (set_where p (j - 1)) (2 ^ j) else set_where p (j - 1))
unfolding set_where
one_more p zero h = absurd (omega arith)
one_more p (suc k) h = let e : suc k - 1 ≡ k = omega arith in rw e refl

-- equal tests, equal sets
where-same : (p q : ℕ → Bool) (k : ℕ) → ((j : ℕ) → p j ≡ q j) → set_where p k ≡ set_where q k
unfolding set_where
where-same p q zero h = refl
where-same p q (suc k) h = rw (h (suc k), where-same p q k h) refl

-- the first node's row says which doors come behind door i
pub first-behind : {S V : Type 0} (n W : ℕ) (xs : List (Node S V)) (row : List Onward) → ((i j t : ℕ) → get_or (views i j row) t none ≡ seen_from i j (arcs n W xs) t)
    → (i : ℕ) → set_where (is_behind n (get_or row 0 (record { ends = false; some = 0; after = [] })).after i) 16 ≡ behind n W xs i
unfolding behind must
first-behind n W xs row seen i =
    where-same (is_behind n (get_or row 0 (record { ends = false; some = 0; after = [] })).after i) (must_of n W xs i) 16
    (λ j. let both = ap (λ (s : Seen). s.both) (sym (view-target i j row 1 (omega arith)) ∙ seen i j 1) in grind (arith, nat_tests, both))

-- one set more
pub one_more_set : (f : ℕ → ℕ) (sets : List ℕ) (i v : ℕ) → i < length sets → v ≡ f i → ((q : ℕ) → q < i → get_or sets q 0 ≡ f q) → (q : ℕ) → q < i + 1 → get_or (set sets i v) q 0 ≡ f q
one_more_set f sets i v l e h q m = grind (arith, elements, h q)

pub musts_are : {S V : Type 0} (n W : ℕ) (xs : List (Node S V)) (sets : List ℕ) (i : ℕ) → i ≡ 17 → length sets ≡ 17 → ((q : ℕ) → q < i → get_or sets q 0 ≡ behind n W xs q) → sets ≡ musts n W xs
unfolding musts
musts_are n W xs sets i all long h =
    same_number_lists sets _ (long ∙ sym (length-map-range_with_len (behind n W xs) 0 17))
    (λ k l. h k (omega arith) ∙ sym (get_or-map-range_with_len (behind n W xs) 0 17 k k 0 (omega arith) (omega arith)))
