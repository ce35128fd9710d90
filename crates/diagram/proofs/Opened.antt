-- Laying the arcs and working out all labels comes to the opened diagram.
use Rattle.std.proofs.Common.{◌≡◌, ◌+◌, ◌*◌, ◌≤◌, true, List, ◌++◌, length, ap, ◌∙◌, arith}
use Rattle.std.proofs.lemmas.Bool.{and_from, le-leb}
use Rattle.layers.specs.declared.node.Node.{Node}
use Rattle.layers.specs.Labels.{opening_arcs}
use Rattle.layers.specs.Records.{labelled_records}
use Rattle.layers.specs.Calls.{records_with, after_open}
use Rattle.layers.proofs.Proper.{proper-opened}
use Rattle.layers.proofs.Shaped.{relaid-shaped, relaid-timely}
use Rattle.labels.specs.Passes.{fits, relabelled}
use Rattle.labels.proofs.Laying.{relabelled-lawful}
use Rattle.diagram.specs.Opening.{every_door, arced}
use Rattle.layers.specs.Shape.{IsShaped, IsTimely}
use Rattle.diagram.proofs.Arcs_laid.{arced-long, after-all, arranged}
use Rattle.layers.specs.Settings.{Setting}

module _ {S V : Type 0} (by : Setting S V) (a : 1 ≤ by.width) (b : by.width ≤ 128) (xs : List (Node S V)) (h : by.round.n * by.width + 1 ≤ length xs) where
  abbrev ys : List (Node S V)
  ys = arced (every_door by.round.n) by.width by.round.n xs

  pub laid-opened : relabelled by ys ≡ after_open by xs
  unfolding after_open records_with opening_arcs
  laid-opened =
      relabelled-lawful by (opening_arcs by.round.n) ys (proper-opened by a) (arranged by.round.n by.width by.round.n xs h)
      ∙ ap (λ zs. labelled_records by (opening_arcs by.round.n) ++ zs) (after-all (every_door by.round.n) by.width by.round.n xs h)

  pub room : fits by.round.n by.width (length ys) ≡ true
  room = let l = arced-long (every_door by.round.n) by.width by.round.n xs in and_from _ _ (le-leb 1 by.width a) (and_from _ _ (le-leb by.width 128 b) (le-leb (by.round.n * by.width + 1) (length ys) (omega (arith, l))))

  -- ---- what arcs alone decide
  pub opened-shaped : IsShaped by.round.n by.width (after_open by xs)
  unfolding after_open
  opened-shaped = relaid-shaped by a xs (opening_arcs by.round.n) (proper-opened by a)

  pub opened-timely : IsTimely by.round.n by.width (after_open by xs)
  unfolding after_open
  opened-timely = relaid-timely by xs (opening_arcs by.round.n) (proper-opened by a).deep
