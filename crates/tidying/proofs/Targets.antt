-- The targets of a record, and counts of arcs
use Rattle.std.proofs.Common.{◌≡◌, ℕ, zero, suc, ◌+◌, ◌<◌, true, false, not, ◌==◌, ◌≢◌, List, [], ◌∷◌, ◌++◌, map, length, get_or, take, drop, sum_by, sym, refl, inl, inr, arith}
use Rattle.std.proofs.lemmas.Bool.Decides.{nat_tests}
use mir.Val.{bool_byte}
use Rattle.std.specs.List.{range_with_len}
use Rattle.std.proofs.lemmas.List.FromFn.{fill_by_all, get_or-map-range_with_len}
use Rattle.std.proofs.lemmas.List.Sums.{sum_by-append, sum_by-cons, sum_by-take-drop}
use Rattle.layers.specs.declared.node.Label.{Label}
use Rattle.layers.specs.declared.node.Node.{Node}
use Rattle.layers.specs.Net.{count_doors}
use Rattle.layers.specs.Targets.{targets}
use Rattle.tidying.specs.Counted.{arcs_of, arcs_within}
use Rattle.tidying.specs.Tidied.{bare_node, lively}
use Rattle.tidying.proofs.Lists.{zero-or-suc}

pub length-targets : {S V : Type 0} (x : Node S V) → length (targets x) ≡ 16
unfolding targets
length-targets x = refl

pub target-at : {S V : Type 0} (x : Node S V) (k : ℕ) → k < 16 → get_or (targets x) k 0 ≡ get_or x.arcs.to k 0
unfolding targets
target-at x k lt = get_or-map-range_with_len (λ k. get_or x.arcs.to k 0) 0 16 k k 0 lt (omega arith)

-- the sixteen targets are all that the record has
pub targets_read : {S V : Type 0} (x : Node S V) → length x.arcs.to ≡ 16 → targets x ≡ x.arcs.to
unfolding targets
targets_read x long = sym (fill_by_all (λ k. get_or x.arcs.to k 0) x.arcs.to 16 0 long (λ k lt. refl))

-- 1 for an arc
abbrev pub one_if : ℕ → ℕ
one_if t = bool_byte (not (t == 0))

doors-counted : (ts : List ℕ) → count_doors ts ≡ sum_by one_if ts
unfolding count_doors
doors-counted [] = refl
doors-counted (zero ∷ ts) = omega (arith, sum_by-cons one_if 0 ts, doors-counted ts)
doors-counted (suc b ∷ ts) = grind (arith, nat_tests, sum_by-cons one_if (suc b) ts, doors-counted ts)

pub arcs_counted : {S V : Type 0} (x : Node S V) → arcs_of x ≡ sum_by one_if (map (λ i. get_or x.arcs.to i 0) (range_with_len 0 16))
unfolding arcs_of targets
arcs_counted x = doors-counted (targets x)

-- arcs lost by the first k places of a layer and by what follows it
pub layer-less : {S V : Type 0} (w k here later : ℕ) (xs row rest us ys : List (Node S V)) → row ≡ take w xs → rest ≡ drop w xs → here + arcs_within us ≡ arcs_within (take k row) → later + arcs_within ys ≡ arcs_within rest
    → here + later + arcs_within (us ++ drop k row ++ ys) ≡ arcs_within xs
layer-less w k here later xs row rest us ys front back p q =
    rw (sum_by-append arcs_of (us ++ drop k row) ys, sum_by-append arcs_of us (drop k row), ← sum_by-take-drop arcs_of xs w, ← front, ← back, ← sum_by-take-drop arcs_of row k) (omega arith)

pub bare_counted : {S V : Type 0} (l : Label S V) → arcs_of (bare_node l) ≡ 0
unfolding arcs_of targets count_doors
bare_counted l = refl

-- ---- a node with arcs
-- the record has none
abbrev pub Bare : {S V : Type 0} → Node S V → Type 0
Bare z = (k : ℕ) → get_or (targets z) k 0 ≡ 0

doors-have : (ts : List ℕ) → count_doors ts ≢ 0 → (k : ℕ) × (b : ℕ) × (get_or ts k 0 ≡ suc b)
unfolding count_doors
doors-have [] ne = absurd (ne refl)
doors-have (zero ∷ ts) ne = let r = doors-have ts ne in (suc r.0, r.1, r.2)
doors-have (suc b ∷ ts) ne = (0, b, refl)

doors-from : (ts : List ℕ) (k b : ℕ) → get_or ts k 0 ≡ suc b → 0 < count_doors ts
unfolding count_doors
doors-from [] k b e = absurd (omega arith)
doors-from (zero ∷ ts) zero b e = absurd (omega arith)
doors-from (zero ∷ ts) (suc k) b e = doors-from ts k b e
doors-from (suc c ∷ ts) k b e = omega arith

pub bare-from : {S V : Type 0} (z : Node S V) → arcs_of z ≡ 0 → Bare z
unfolding arcs_of
bare-from z e k = elim (zero-or-suc (get_or (targets z) k 0)) [ inl o ↦ o | inr b ↦ absurd (let some = doors-from (targets z) k b.0 b.1 in omega arith) ]

pub lively-has : {S V : Type 0} (x : Node S V) → lively x ≡ true → (k : ℕ) × (b : ℕ) × (get_or (targets x) k 0 ≡ suc b)
unfolding lively arcs_of
lively-has x live = doors-have (targets x) (grind (arith, nat_tests))

pub lively-from : {S V : Type 0} (x : Node S V) (k b : ℕ) → get_or (targets x) k 0 ≡ suc b → lively x ≡ true
unfolding lively arcs_of
lively-from x k b e = let few = doors-from (targets x) k b e in grind (arith, nat_tests)

pub lively-none : {S V : Type 0} (x : Node S V) → lively x ≡ false → arcs_of x ≡ 0
unfolding lively
lively-none x dead = grind (arith, nat_tests)
