-- What the calls come to on records xs that have the shape of a diagram; ys are the records that they leave.
use Rattle.std.specs.Prelude.{◌≡◌, ℕ, ◌+◌, ◌*◌, ◌<◌, ◌≤◌, Bool, List, length}
use Rattle.layers.specs.declared.node.Node.{Node}
use Rattle.layers.specs.Calls.{Outcome, arcs, labels, records_with, in_arcs_agree, part_answer, after_part, join_answer, after_join, parts_of_layer}
use Rattle.layers.specs.Settings.{Setting}
use Rattle.layers.specs.Shape.{IsShaped}
use Rattle.labels.specs.Passes.{relabelled}

-- the list has room for a diagram of n doors and width w, and that shape
pub record Sound {S V : Type 0} (n w : ℕ) (xs : List (Node S V)) : Type 0 where
  pub some : 1 ≤ w
  pub few : w ≤ 128
  pub fit : n * w + 1 ≤ length xs
  pub shaped : IsShaped n w xs

module _ {S V : Type 0} (by : Setting S V) (xs : List (Node S V)) where
  -- the list has room for a diagram of this round and width, and that shape
  abbrev pub SoundHere : Type 0
  SoundHere = Sound by.round.n by.width xs

  -- part node a of layer i, answered by o
  abbrev pub PartDone : ℕ → ℕ → Outcome → List (Node S V) → Type 0
  PartDone i a o ys = SoundHere → (o ≡ part_answer by i a xs) × (ys ≡ after_part by i a xs)

  -- join nodes a and b of layer i
  abbrev pub JoinDone : ℕ → ℕ → ℕ → Outcome → List (Node S V) → Type 0
  JoinDone i a b o ys = SoundHere → (o ≡ join_answer by i a b xs) × (ys ≡ after_join by i a b xs)

  -- agreed
  abbrev pub AgreedDone : Bool → Type 0
  AgreedDone b =
      let n = by.round.n in
      SoundHere → b ≡ in_arcs_agree by (arcs n by.width xs) (labels n by.width xs)

  -- the parts of layer i, of records with labels that are those worked out anew: with labels worked out anew again, what refine
  -- does in one layer
  abbrev pub LayerDone : ℕ → Bool → List (Node S V) → Type 0
  LayerDone i b ys =
      let n = by.round.n in
      SoundHere → records_with by xs (arcs n by.width xs) ≡ xs → 1 ≤ i → i < n
      → (b, relabelled by ys) ≡ parts_of_layer by by.width i 1 xs
