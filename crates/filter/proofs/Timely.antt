-- What it is to be timely.
use Rattle.std.proofs.Common.{◌≡◌, ℕ, suc, ◌≤◌, true, List, [], ◌∷◌, map, get_or, refl}
use Rattle.std.specs.List.{AllByRecursion as All}
use Rattle.std.proofs.lemmas.Bool.{and_parts, and_from, leb-true, le-leb}
use Rattle.round.specs.Clock.{latest_finish}
use Rattle.layers.specs.declared.node.Node.{Node}
use Rattle.labels.specs.Passes.{Early}
use Rattle.filter.specs.Steps.{timely}

module _ {S V : Type 0} where
  pub timely_all : (xs : List (Node S V)) → timely xs ≡ true → All (Early (latest_finish 15)) xs
  timely_all [] e = tt
  timely_all (x ∷ xs) e = let q = and_parts _ _ e in (leb-true x.label.down.finish (latest_finish 15) q.0, timely_all xs q.1)

  pub timely_from : (xs : List (Node S V)) → ((k : ℕ) → get_or (map (λ (x : Node S V). x.label.down.finish) xs) k 0 ≤ latest_finish 15) → timely xs ≡ true
  timely_from [] h = refl
  timely_from (x ∷ xs) h = and_from _ _ (le-leb x.label.down.finish (latest_finish 15) (h 0)) (timely_from xs (λ k. h (suc k)))
