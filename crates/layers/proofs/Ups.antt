-- Upward labels: what is so of what climbs over its arcs is so of the label of a node.
use Rattle.std.proofs.Common.{◌≡◌, ℕ, suc, List, ◌∷◌, length, get_or, Some, None, Option, ◌∙◌}
use Rattle.layers.specs.declared.node.Down.{Down}
use Rattle.layers.specs.declared.node.Up.{Up}
use Rattle.layers.specs.Net.{Layer, Net, node, target, width}
use Rattle.layers.specs.Flow.{gather, climbs_of}
use Rattle.layers.specs.Labels.{climb, merge_up, lasts_of, labels_next, ups}
use Rattle.layers.specs.Settings.{Setting}
use Rattle.layers.proofs.Flows.{table_at, table-long, table-get, has-arc, climbs-at, climbs-all}

module _ {S V : Type 0} (by : Setting S V) (labs : List (Option (Down S V))) (L : Layer) (Ls : Net) where
  -- what climbs over an arc by j from the node at place a
  abbrev pub over : ℕ → Up → ℕ → Up
  over a = climb by.round (lasts_of (get_or labs a None))

  -- the upward labels of the layer after it
  abbrev pub later : List (Option Up)
  later = ups by (labels_next by labs L (width Ls)) Ls

  pub ups-long : length (ups by labs (L ∷ Ls)) ≡ length L
  unfolding ups
  ups-long = table-long (length L) (λ a. gather merge_up (climbs_of (over a) later 1 (node L a)))

  -- over one arc
  pub ups-at : (P : Up → Type 0) → ((x y : Up) → P x → P (merge_up x y)) → ((x y : Up) → P y → P (merge_up x y)) → (a j b : ℕ) (u : Up) → target (node L a) j ≡ suc b → get_or later b None ≡ Some u
      → P (over a u j) → (m : Up) × (get_or (ups by labs (L ∷ Ls)) a None ≡ Some m) × P m
  unfolding ups
  ups-at P left right a j b u e g p =
      let q = climbs-at merge_up P left right (over a) later L a j b u e g p in
      (q.0, table_at (length L) a (λ a. gather merge_up (climbs_of (over a) later 1 (node L a))) None (has-arc L a j b e) ∙ q.1, q.2)

  -- over each
  pub ups-all : (a : ℕ) (m : Up) (P : Up → Type 0) → ((x y : Up) → P x → P y → P (merge_up x y)) → ((j b : ℕ) (u : Up) → target (node L a) j ≡ suc b → get_or later b None ≡ Some u → P (over a u j))
      → get_or (ups by labs (L ∷ Ls)) a None ≡ Some m → P m
  unfolding ups
  ups-all a m P keep f e = climbs-all (over a) merge_up later L a m P keep f (table-get (length L) a (λ a. gather merge_up (climbs_of (over a) later 1 (node L a))) m e).1
