-- The musts of a diagram of n doors and width W, in the records xs, as sets of doors.
use Rattle.std.specs.Prelude.{ℕ, zero, suc, ◌^◌, Bool, false, if◌then◌else◌, List, map, bit_or}
use Rattle.std.specs.List.{range_with_len}
use Rattle.std.specs.Result.{result_unwrap_or}
use Rattle.layers.specs.declared.node.Node.{Node}
use Rattle.layers.specs.Calls.{must_answer}

-- the set of the doors 1 to k for which the test says yes
unfoldable pub set_where : (ℕ → Bool) → ℕ → ℕ
set_where p zero = 0
set_where p (suc k) = if p (suc k) then bit_or (set_where p k) (2 ^ suc k) else set_where p k

module _ {S V : Type 0} (n W : ℕ) (xs : List (Node S V)) where
  -- whether must(i, j) is answered yes; no where it is refused
  abbrev pub must_of : ℕ → ℕ → Bool
  must_of i j = result_unwrap_or (must_answer n W i j xs) false

  -- the set of the doors that come behind door i in every wanted order: those j to which must(i, j) is answered yes
  unfoldable pub behind : ℕ → ℕ
  unfolding set_where
  behind i = set_where (must_of i) 16

  -- the sets of the numbers 0 to 16: none comes behind a number that is no door
  unfoldable pub musts : List ℕ
  unfolding behind
  musts = map behind (range_with_len 0 17)
