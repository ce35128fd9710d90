-- Tidying, one layer more
use Rattle.std.proofs.Common.{◌≡◌, ℕ, zero, suc, ◌+◌, ◌-◌, ◌*◌, ◌≤◌, Bool, ◌≢◌, List, ◌++◌, length, take, drop, replicate, filter, refl, suc-mul, arith}
use Rattle.std.proofs.lemmas.List.{drop-drop, drop_at, length-append, length-drop, length-replicate, length-take-le, take_at}
use Rattle.std.proofs.lemmas.List.FromFn.{length-map-range_with_len}
use Rattle.std.proofs.lemmas.List.Sums.{count_by-le-length, length-filter}
use Rattle.layers.specs.declared.node.Node.{Node}
use Rattle.layers.specs.Records.{nodes_in}
use Rattle.layers.proofs.Shaped.{standing-short}
use Rattle.tidying.specs.InUse.{on_nodes}
use Rattle.tidying.specs.Tidied.{lively, reached_next, renew_at, numbers, tidied, together, renewals, numbering}

module _ {S V : Type 0} (w : ℕ) (z : Node S V) where
  -- us are the nodes of the first layer, row, with `new` the numbers of the next, and ys what is left of the others
  pub numbers-step : (left : ℕ) (from : List Bool) (xs row us rest : List (Node S V)) (next : List Bool) (new : List ℕ) → left ≢ 0 → row ≡ take w xs → rest ≡ drop w xs → us ≡ nodes_in row → next ≡ reached_next from us
      → new ≡ numbers w z (left - 1) next rest → numbering (renewals z from new us) ≡ numbers w z left from xs
  unfolding numbers
  numbers-step zero from xs row us rest next new some front back nodes marks new-is = absurd (some refl)
  numbers-step (suc n) from xs row us rest next new some front back nodes marks new-is = let e : suc n - 1 ≡ n = omega arith in rw (new-is, marks, nodes, front, back, e)

  pub tidied-step : (left : ℕ) (from : List Bool) (xs row us rest : List (Node S V)) (next : List Bool) (k : ℕ) (new : List ℕ) (ys : List (Node S V)) → left ≢ 0 → row ≡ take w xs → rest ≡ drop w xs → us ≡ nodes_in row → k ≡ length (nodes_in row) → next ≡ reached_next from us
      → new ≡ numbers w z (left - 1) next rest → ys ≡ tidied w z (left - 1) next rest → together z (renewals z from new us) ++ drop k row ++ ys ≡ tidied w z left from xs
  unfolding tidied
  tidied-step zero from xs row us rest next k new ys some front back nodes many marks new-is ys-is = absurd (some refl)
  tidied-step (suc n) from xs row us rest next k new ys some front back nodes many marks new-is ys-is = let e : suc n - 1 ≡ n = omega arith in rw (new-is, ys-is, marks, nodes, many, front, back, e)

  -- the first of r + 1 layers, tidied
  abbrev pub block : ℕ → List Bool → List (Node S V) → List (Node S V)
  block r from xs = on_nodes (λ us. together z (renewals z from (numbers w z r (reached_next from (nodes_in (take w xs))) (drop w xs)) us)) (take w xs)

  pub together-long : (us : List (Node S V)) → length (together z us) ≡ length us
  unfolding together
  together-long us =
      let n = length us - length (filter lively us) in
      omega (arith, length-append (filter lively us) (replicate n z), length-replicate n z, length-filter lively us, count_by-le-length lively us)

  pub block-long : (r : ℕ) (from : List Bool) (xs : List (Node S V)) → w ≤ length xs → length (block r from xs) ≡ w
  unfolding renewals
  block-long r from xs fits =
      let us = nodes_in (take w xs) in
      let new = numbers w z r (reached_next from us) (drop w xs) in
      let vs = renewals z from new us in
      omega (
        arith,
        length-append (together z vs) (drop (length us) (take w xs)),
        together-long vs,
        length-map-range_with_len (renew_at z from new us) 0 (length us),
        length-drop (length us) (take w xs),
        standing-short (take w xs),
        length-take-le w xs fits,
      )

  pub front : (r : ℕ) (from : List Bool) (xs : List (Node S V)) → w ≤ length xs → take w (tidied w z (suc r) from xs) ≡ block r from xs
  unfolding tidied
  front r from xs fits = take_at (block r from xs) (tidied w z r (reached_next from (nodes_in (take w xs))) (drop w xs)) w (block-long r from xs fits)

  pub back : (r : ℕ) (from : List Bool) (xs : List (Node S V)) → w ≤ length xs → drop w (tidied w z (suc r) from xs) ≡ tidied w z r (reached_next from (nodes_in (take w xs))) (drop w xs)
  unfolding tidied
  back r from xs fits = drop_at (block r from xs) (tidied w z r (reached_next from (nodes_in (take w xs))) (drop w xs)) w (block-long r from xs fits)

  -- what stands after the layers
  pub tail-is : (r : ℕ) (from : List Bool) (xs : List (Node S V)) → r * w ≤ length xs → drop (r * w) (tidied w z r from xs) ≡ drop (r * w) xs
  tail-is zero from xs fits = unfold tidied in refl
  tail-is (suc r) from xs fits =
      let e : suc r * w ≡ w + r * w = omega (arith, suc-mul r w) in
      rw (e, ← drop-drop (r * w) w (tidied w z (suc r) from xs), back r from xs (omega arith), ← drop-drop (r * w) w xs)
      (tail-is r (reached_next from (nodes_in (take w xs))) (drop w xs) (omega (arith, length-drop w xs)))
