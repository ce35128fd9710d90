-- Whether doors are read along a path, as it is worked out arc by arc.
use Rattle.std.proofs.Common.{◌≡◌, ◌↔◌, ℕ, suc, ◌-◌, true, List, [], ◌∷◌, arith}
use Rattle.std.proofs.lemmas.Bool.Decides.{nat_tests}
use Rattle.layers.specs.declared.node.Node.{Node}
use Rattle.layers.specs.Net.{Net, node, target, PathFrom, is_path_from}
use Rattle.layers.specs.Calls.{arcs, holds}
use Rattle.layers.specs.Claim.{IsPath}

found : (Ls : Net) (a : ℕ) (w : List ℕ) → is_path_from Ls a w ≡ true → PathFrom Ls a w
unfolding is_path_from
found [] a [] e = grind (arith, nat_tests)
found [] a (j ∷ w) e = absurd (grind arith)
found (L ∷ Ls) a [] e = absurd (grind arith)
found (L ∷ Ls) a (j ∷ w) e =
    let t = target (node L a) j in
    let b : t ≡ suc (t - 1) = grind (arith, nat_tests) in
    (t - 1, b, found Ls (t - 1) w (grind (arith, nat_tests)))

read-along : (Ls : Net) (a : ℕ) (w : List ℕ) → PathFrom Ls a w → is_path_from Ls a w ≡ true
unfolding is_path_from
read-along [] a [] p = grind (arith, nat_tests)
read-along [] a (j ∷ w) p = absurd p
read-along (L ∷ Ls) a [] p = absurd p
read-along (L ∷ Ls) a (j ∷ w) p = grind (arith, nat_tests, read-along Ls p.0 w p.2)

-- holds is yes exactly if the doors are a path
pub holds-means : {S V : Type 0} (n W : ℕ) (w : List ℕ) (xs : List (Node S V)) → (holds n W w xs ≡ true) ↔ IsPath n W xs w
unfolding holds
holds-means n W w xs = (found (arcs n W xs) 0 w, read-along (arcs n W xs) 0 w)
