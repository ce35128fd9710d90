-- How many arcs tidying takes from a layer
use Rattle.std.proofs.Common.{◌≡◌, ℕ, zero, suc, ◌-◌, ◌*◌, ◌≤◌, List, [], ◌∷◌, map, length, get_or, replicate, filter, refl, ap, inl, inr, arith}
use Rattle.std.proofs.lemmas.Bool.{cases_Bool}
use Rattle.std.proofs.lemmas.List.Folds.{sum_by-replicate}
use Rattle.std.proofs.lemmas.List.Sums.{sum_by-append, sum_by-cons}
use Rattle.layers.specs.declared.node.Node.{Node}
use Rattle.layers.specs.Net.{count_doors}
use Rattle.layers.specs.Targets.{targets, with_targets}
use Rattle.tidying.specs.Counted.{arcs_of, arcs_within}
use Rattle.tidying.specs.Tidied.{lively, together}
use Rattle.tidying.proofs.Targets.{lively-none, targets_read}

doors-renewed : (new : List ℕ) → get_or new 0 0 ≡ 0 → (ts : List ℕ) → count_doors (map (λ t. get_or new t 0) ts) ≤ count_doors ts
unfolding count_doors
doors-renewed new none [] = omega arith
doors-renewed new none (zero ∷ ts) = rw none (doors-renewed new none ts)
doors-renewed new none (suc b ∷ ts) = grind (arith, doors-renewed new none ts)

pub renewed_fewer : {S V : Type 0} (new : List ℕ) (x : Node S V) → get_or new 0 0 ≡ 0 → arcs_of (with_targets x (map (λ t. get_or new t 0) (targets x))) ≤ arcs_of x
unfolding arcs_of
renewed_fewer new x none = rw (targets_read (with_targets x (map (λ t. get_or new t 0) (targets x))) refl) (doors-renewed new none (targets x))

kept-all : {S V : Type 0} (us : List (Node S V)) → arcs_within (filter lively us) ≡ arcs_within us
kept-all [] = refl
kept-all (u ∷ us) = elim (cases_Bool (lively u)) [
  | inl e ↦ rw e (omega (arith, sum_by-cons arcs_of u (filter lively us), sum_by-cons arcs_of u us, kept-all us))
  | inr e ↦ rw e (omega (arith, lively-none u e, sum_by-cons arcs_of u us, kept-all us))
]

-- moving the nodes with arcs together loses none
pub together_same : {S V : Type 0} (z : Node S V) (us : List (Node S V)) → arcs_of z ≡ 0 → arcs_within (together z us) ≡ arcs_within us
unfolding together
together_same z us bare =
    let n = length us - length (filter lively us) in
    omega (arith, sum_by-append arcs_of (filter lively us) (replicate n z), sum_by-replicate arcs_of n z, ap (λ m. n * m) bare, kept-all us)
