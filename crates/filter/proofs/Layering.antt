-- A filter, one layer more.
use Rattle.std.proofs.Common.{◌≡◌, ℕ, suc, ◌+◌, ◌-◌, ◌*◌, ◌≢◌, Bool, ◌&&◌, List, [], ◌∷◌, ◌++◌, map, length, take, drop, Option, sym, subst, ap, ◌∙◌, add-one, arith, take-append-drop}
use Rattle.std.proofs.Math.Seq.{take-add}
use Rattle.std.specs.List.{AllByRecursion as All, list_all}
use Rattle.layers.specs.declared.node.Node.{Node}
use Rattle.layers.specs.declared.node.Down.{Down}
use Rattle.layers.specs.declared.node.Up.{Up}
use Rattle.labels.proofs.Rests.{one_more}
use Rattle.layers.specs.Records.{nodes_in}
use Rattle.filter.specs.Kept.{kept_node, kept_from, stays, all_stay}

-- row are the records of the first layer, its first k the nodes, and rest all after it
module _ {S V : Type 0} (goes : ℕ → ℕ → ℕ → Option (Down S V) → Option Up → Bool) (w i left : ℕ) (xs row rest : List (Node S V)) (some : left ≢ 0) (front : row ≡ take w xs) (back : rest ≡ drop w xs) where
  one : left ≡ suc (left - 1)
  one = omega arith

  less : suc (left - 1) - 1 ≡ left - 1
  less = omega arith

  pub kept-step : (k : ℕ) (us later : List (Node S V)) → k ≡ length (nodes_in row) → take k row ≡ nodes_in row → us ≡ map (kept_node goes i left rest) (take k row)
      → later ≡ kept_from goes w (i + 1) (left - 1) rest → us ++ drop k row ++ later ≡ kept_from goes w i left xs
  unfolding kept_from
  kept-step k us later many nodes e f = rw (e, f, nodes, many, front, back, add-one i, one, less)

  pub stay-step : (k : ℕ) → take k row ≡ nodes_in row → list_all (stays goes i left rest) (take k row) && all_stay goes w (i + 1) (left - 1) rest ≡ all_stay goes w i left xs
  unfolding all_stay
  stay-step k nodes = rw (nodes, front, back, add-one i, one, less)

-- what holds of all records of the layers holds of those of the first, and of the others
all-parts : {X : Type 0} (P : X → Type 0) (xs ys : List X) → All P (xs ++ ys) → All P xs × All P ys
all-parts P [] ys h = (tt, h)
all-parts P (x ∷ xs) ys h = let q = all-parts P xs ys h.1 in ((h.0, q.0), q.1)

all-layers : {X : Type 0} (P : X → Type 0) (w left : ℕ) (xs : List X) → left ≢ 0 → All P (take (left * w) xs) → All P (take w xs) × All P (take ((left - 1) * w) (drop w xs))
all-layers P w left xs ne h =
    let more : left * w ≡ w + (left - 1) * w = omega (arith, one_more left w ne) in
    all-parts P (take w xs) (take ((left - 1) * w) (drop w xs)) (subst (All P) (ap (λ k. take k xs) more ∙ take-add w ((left - 1) * w) xs) h)

pub fits_here : {X : Type 0} (P : X → Type 0) (w left k : ℕ) (xs row : List X) → left ≢ 0 → row ≡ take w xs → All P (take (left * w) xs) → All P (take k row)
fits_here P w left k xs row ne front h = (all-parts P (take k row) (drop k row) (subst (All P) (sym (take-append-drop k row ∙ front)) (all-layers P w left xs ne h).0)).0

pub fits_later : {X : Type 0} (P : X → Type 0) (w left : ℕ) (xs rest : List X) → left ≢ 0 → rest ≡ drop w xs → All P (take (left * w) xs) → All P (take ((left - 1) * w) rest)
fits_later P w left xs rest ne back h = subst (λ ys. All P (take ((left - 1) * w) ys)) (sym back) (all-layers P w left xs ne h).1
