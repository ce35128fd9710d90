-- What the checks before a part or a join find.
-- Nobody has to believe these steps: `answer` and `words` of `part` and of `join` say what they come to.
use Rattle.std.specs.Prelude.{◌≡◌, ℕ, ◌+◌, ◌-◌, ◌*◌, ◌<◌, ◌≤◌, ◌≢◌, false, List, length, Ok}
use Rattle.layers.specs.declared.node.Node.{Node}
use Rattle.layers.specs.Settings.{Setting}
use Rattle.labels.specs.Passes.{blank_node}
use Rattle.split.specs.Steps.{place_check, node_check, node_count, clash_at, join_check}

-- layer i of a list of that length lies between the first node and the end, and with the layer before it within the list
pub record Placed (n w long i : ℕ) : Type 0 where
  pub clear : place_check n w long i ≡ Ok tt
  pub some : 1 ≤ w
  pub few : w ≤ 128
  pub fit : n * w + 1 ≤ long
  pub low : 1 ≤ i
  pub high : i < n
  pub two_in_bounds : (i - 1) * w + w + w < long
  pub small : (i - 1) * w + w + w ≤ 2048

-- a layer of m nodes has node a
pub record Numbered (m a : ℕ) : Type 0 where
  pub clear : node_check m a ≡ Ok tt
  pub low : 1 ≤ a
  pub high : a ≤ m

module _ {S V : Type 0} (by : Setting S V) where
  -- nodes a and b of layer i can be joined
  pub record MayJoin (i a b : ℕ) (xs : List (Node S V)) : Type 0 where
    pub clear : join_check by i a b xs ≡ Ok tt
    pub placed : Placed by.round.n by.width (length xs) i
    pub low_a : 1 ≤ a
    pub low_b : 1 ≤ b
    pub high_a : a ≤ node_count ((i - 1) * by.width + by.width) by.width xs
    pub high_b : b ≤ node_count ((i - 1) * by.width + by.width) by.width xs
    pub apart : a ≢ b
    pub calm : clash_at (blank_node by.rule by.tally) ((i - 1) * by.width + by.width) a b xs ≡ false
