-- Calls on what earlier calls left.
use Rattle.std.proofs.Common.{◌≡◌, List, [], ◌∷◌, ◌++◌, refl}
use Rattle.layers.specs.declared.call.Call.{Call}
use Rattle.layers.specs.declared.node.Node.{Node}
use Rattle.layers.specs.Settings.{Setting}
use Rattle.layers.specs.Calls.{after_call, after_calls}

pub calls-append : {S V : Type 0} (by : Setting S V) (bs cs : List (Call V)) (xs : List (Node S V)) → after_calls by (bs ++ cs) xs ≡ after_calls by cs (after_calls by bs xs)
calls-append by [] cs xs = refl
calls-append by (b ∷ bs) cs xs = calls-append by bs cs (after_call by b xs)
