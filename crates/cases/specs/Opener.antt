-- An order that begins with one door, as a side rule.
use Rattle.std.specs.Prelude.{◌≡◌, ℕ, Bool, true, false, not, ◌&&◌, ◌||◌, List, [], ◌∷◌, ◌==◌}
use Rattle.doors.specs.Orders.{is_door}
use Rattle.rules.specs.Rules.{RuleSense}

-- w is empty, or its first door is d
abbrev pub Begins : ℕ → List ℕ → Type 0
Begins d [] = Unit {0}
Begins d (x ∷ w) = x ≡ d

-- whether the two are equal
abbrev pub same_bool : Bool → Bool → Bool
same_bool true t = t
same_bool false t = not t

-- what the rule answers, in rounds of n doors: a state is whether the van may have begun, and at the yard any door but d is barred
abbrev pub opener_sense : ℕ → ℕ → RuleSense Bool
opener_sense n d = record {
  start = false;
  step = λ s j. s || is_door n j;
  cover = ◌||◌;
  bars = λ s j. not s && (is_door n j && not (j == d));
  same = same_bool;
}
