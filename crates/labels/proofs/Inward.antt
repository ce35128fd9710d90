-- What the code's pass adds up at a record is what flows in over the arcs.
use Rattle.std.proofs.Common.{◌≡◌, ℕ, zero, suc, ◌+◌, ◌<◌, ◌≤◌, false, cond, eqb, List, [], ◌∷◌, ◌++◌, length, get_or, Some, None, Option, refl, ap, ◌∙◌, ap₂, zero-add, add-one, arith}
use Rattle.std.specs.List.{range_with_len, flat_map}
use Rattle.std.proofs.lemmas.Grind.{common_steps}
use Rattle.std.proofs.lemmas.Bool.Decides.{nat_tests}
use Rattle.std.proofs.lemmas.List.{get_or_past}
use Rattle.labels.proofs.Folds.{by-doors}
use Rattle.layers.specs.declared.node.Down.{Down}
use Rattle.layers.specs.Net.{table, Outs, Layer, node}
use Rattle.layers.specs.Flow.{arrivals_by_door, arrivals_at, gather}
use Rattle.layers.specs.Labels.{arrival_over, merge, no_up}
use Rattle.layers.specs.Records.{nodes_in, padded_targets, record_of_place}
use Rattle.layers.proofs.Flows.{table_at}
use Rattle.labels.specs.Passes.{by_door, from_node, gathered}
use Rattle.layers.proofs.Model.{or_blank}
use Rattle.layers.specs.Settings.{Setting}

module _ {S V : Type 0} (by : Setting S V) where
  abbrev pub over-door : ℕ → List ℕ → Down S V → ℕ → List (Down S V)
  over-door t to l k = cond (eqb (get_or to k 0) t) (arrival_over by l (k + 1) ∷ []) []

  -- over m doors from a on, of which those past ts have no arc
  pub doors-in : (b : ℕ) (l : Down S V) (ts to : List ℕ) (a m : ℕ) → length ts ≤ m → ((i : ℕ) → i < m → get_or to (a + i) 0 ≡ get_or ts i 0)
      → flat_map (over-door (suc b) to l) (range_with_len a m) ≡ arrivals_by_door (arrival_over by) b l (suc a) ts
  unfolding arrivals_by_door
  doors-in b l ts to a m h e =
      by-doors (over-door (suc b) to l) (arrivals_by_door (arrival_over by) b l) ts a m h (λ j. refl)
      (λ k i q ge lt. let none : get_or to k 0 ≡ 0 = rw (← q, e i lt) (get_or_past ts i 0 ge) in grind (arith, nat_tests, none))
      (λ k i rest q lt. rw (← q, e i (omega arith), q, add-one k) (grind (arith, common_steps)))

  from-used : (b : ℕ) (nd : Outs) (l : Down S V) → length nd ≤ 16 → eqb l.lasts 0 ≡ false
      → from_node by (suc b) (record { arcs = record { to = padded_targets nd }; label = record { down = l; up = no_up } }) ≡ arrivals_by_door (arrival_over by) b l 1 nd
  unfolding from_node by_door
  from-used b nd l h e = rw e (doors-in b l nd (padded_targets nd) 0 16 h (λ i g. ap (λ (k : ℕ). get_or (padded_targets nd) k 0) (zero-add i) ∙ table_at 16 i (λ k. get_or nd k 0) 0 g))

  -- each node of the layer has a label, with a last place, and at most 16 doors
  pub arrivals-in : (b w : ℕ) (labs : List (Option (Down S V))) (L : Layer) → length labs ≡ length L → length L ≤ w → ((a : ℕ) → a < length L → (l : Down S V) × (get_or labs a None ≡ Some l) × (eqb l.lasts 0 ≡ false))
      → ((a : ℕ) → length (node L a) ≤ 16) → flat_map (from_node by (suc b)) (nodes_in (table w (record_of_place by L labs []))) ≡ arrivals_at (arrival_over by) b labs L
  unfolding arrivals_at
  arrivals-in b zero [] [] e h s n = refl
  arrivals-in b (suc w) [] [] e h s n = refl
  arrivals-in b w [] (nd ∷ L) e h s n = absurd (omega arith)
  arrivals-in b w (o ∷ labs) [] e h s n = absurd (omega arith)
  arrivals-in b zero (o ∷ labs) (nd ∷ L) e h s n = absurd (omega arith)
  arrivals-in b (suc w) (None ∷ labs) (nd ∷ L) e h s n = let e = (s 0 (omega arith)).1 in absurd cc
  arrivals-in b (suc w) (Some l ∷ labs) (nd ∷ L) e h s n =
      let here = s 0 (omega arith) in
      let same : l ≡ here.0 = cc in
      let used : eqb l.lasts 0 ≡ false = rw same here.2 in
      rw used (ap₂ (λ xs ys. xs ++ ys) (from-used b nd l (n 0) used) (arrivals-in b w labs L (omega arith) (omega arith) (λ a lt. s (suc a) (omega arith)) (λ a. n (suc a))))

  pub gathered-is : (xs : List (Down S V)) → gathered by.rule by.tally xs ≡ or_blank by.rule by.tally (gather (merge by.rule by.tally) xs)
  unfolding gathered gather
  gathered-is [] = refl
  gathered-is (x ∷ xs) = refl
