-- A filter leaves the labels: where the places after the nodes are blank, so they stay.
use Rattle.std.proofs.Common.{◌≡◌, ℕ, zero, suc, ◌*◌, ◌≤◌, List, [], ◌∷◌, map, length, take, drop, refl, ap, ◌∙◌, suc-mul, arith}
use Rattle.std.specs.List.{All}
use Rattle.std.proofs.lemmas.Bool.{eq-eqb}
use Rattle.std.proofs.lemmas.List.{drop_at, length-drop, length-map, length-take-le, take_at}
use Rattle.layers.specs.declared.node.Label.{Label}
use Rattle.layers.specs.declared.node.Node.{Node}
use Rattle.layers.specs.Net.{Net}
use Rattle.layers.specs.Records.{nodes_in}
use Rattle.layers.specs.Targets.{redirected}
use Rattle.layers.specs.Settings.{Setting}
use Rattle.labels.specs.Passes.{blank_node}
use Rattle.labels.proofs.Places.{Stands, Ready}
use Rattle.tidying.specs.InUse.{on_nodes}
use Rattle.tidying.proofs.InUse.{mapped-long, mapped-nodes}
use Rattle.tidying.proofs.TidyNet.{Blanks}
use Rattle.filter.specs.Kept.{kept_node, kept_from}
use Rattle.filter.proofs.KeptNet.{Goes}

module _ {S V : Type 0} (by : Setting S V) where
  abbrev z : Node S V
  z = blank_node by.rule by.tally

  stands-rest : (m : ℕ) (us : List (Node S V)) → Stands (λ x. x.label ≡ z.label) m us → All (λ x. x.label ≡ z.label) (drop (length (nodes_in us)) us)
  stands-rest m [] s = λ k d lt. absurd (omega arith)
  stands-rest zero (u ∷ us) s =
      let off : u.label.down.lasts ≡ 0 = ap (λ (l : Label S V). l.down.lasts) ((s 0 u (omega arith)).1 (omega arith)) in
      rw (eq-eqb u.label.down.lasts 0 off) (λ k d lt. (s k d lt).1 (omega arith))
  stands-rest (suc m) (u ∷ us) s =
      rw ((s 0 u (omega arith)).0 (omega arith)) (stands-rest m us (λ a d lt. let r = s (suc a) d (omega arith) in ((λ l. r.0 (omega arith)), (λ l. r.1 (omega arith)))))

  pub ready-blanks : (Ls : Net) (xs : List (Node S V)) → Ready by Ls xs → Blanks by.width z (length Ls) xs
  ready-blanks [] xs h = tt
  ready-blanks (L ∷ Ls) xs h = (stands-rest h.0.0 (take by.width xs) h.0.2, ready-blanks Ls (drop by.width xs) h.1)

pub kept-blanks : {S V : Type 0} (W : ℕ) (z : Node S V) (goes : Goes S V) (i k : ℕ) (xs : List (Node S V)) → k * W ≤ length xs → Blanks W z k xs → Blanks W z k (kept_from goes W i k xs)
unfolding kept_from kept_node redirected
kept-blanks W z goes i zero xs h b = tt
kept-blanks W z goes i (suc k) xs h b =
    let us = take W xs in
    let f = kept_node goes i (suc k) (drop W xs) in
    let row = on_nodes (map f) us in
    let rest = kept_from goes W (suc i) k (drop W xs) in
    let long : length row ≡ W = mapped-long f us ∙ length-take-le W xs (omega (arith, suc-mul k W)) in
    rw (take_at row rest W long, drop_at row rest W long, mapped-nodes f (λ x. refl) us, drop_at (map f (nodes_in us)) (drop (length (nodes_in us)) us) (length (nodes_in us)) (length-map (nodes_in us) f))
    (b.0, kept-blanks W z goes (suc i) k (drop W xs) (omega (arith, suc-mul k W, length-drop W xs)) b.1)
