-- What a tally is: four functions, and laws that tie them.
use Rattle.std.specs.Prelude.{◌≡◌, Bool, true, false, if◌then◌else◌, ℕ, suc, ◌<◌, ◌≤◌}
use Rattle.doors.specs.Orders.{IsDoor}
use Rattle.round.specs.Clock.{latest_finish}

-- what the functions of a tally answer; step takes the value, the door, the leg's minutes and the finish
pub record TallySense (V : Type 0) : Type 0 where
  pub start : V
  pub step : V → ℕ → ℕ → ℕ → V
  pub not_above : V → V → Bool
  pub lesser : V → V → V

-- The laws, for rounds of n doors: Allows k says which values are allowed after k doors.
pub record TallyLaws {V : Type 0} (n : ℕ) (T : TallySense V) (Allows : ℕ → V → Type 0) : Type 0 where
  -- any two values can be compared, and compare as numbers do
  pub order_self : (a : V) → T.not_above a a ≡ true
  pub order_chain : (a b c : V) → T.not_above a b ≡ true → T.not_above b c ≡ true → T.not_above a c ≡ true
  pub order_same : (a b : V) → T.not_above a b ≡ true → T.not_above b a ≡ true → a ≡ b
  pub order_total : (a b : V) → T.not_above a b ≡ false → T.not_above b a ≡ true
  -- the lesser of two is the first, unless it is above the second
  pub lesser_is : (a b : V) → T.lesser a b ≡ (if T.not_above a b then a else b)
  -- start is allowed after 0 doors, and a step leads from k doors to k + 1
  pub start_allowed : Allows 0 T.start
  pub step_allowed : (k : ℕ) (v : V) (j leg finish : ℕ) → k < 16 → IsDoor n j → leg ≤ 999 → finish ≤ latest_finish 16 → Allows k v → Allows (suc k) (T.step v j leg finish)
  -- with a greater value, a longer leg or a later finish the step gives no less
  pub step_rises : (k : ℕ) (v v' : V) (j leg leg' finish finish' : ℕ) → k < 16 → IsDoor n j → leg ≤ leg' → leg' ≤ 999 → finish ≤ finish' → finish' ≤ latest_finish 16
      → Allows k v → Allows k v' → T.not_above v v' ≡ true → T.not_above (T.step v j leg finish) (T.step v' j leg' finish') ≡ true
  -- a step never lowers the value
  pub step_above : (k : ℕ) (v : V) (j leg finish : ℕ) → k < 16 → IsDoor n j → leg ≤ 999 → finish ≤ latest_finish 16 → Allows k v → T.not_above v (T.step v j leg finish) ≡ true
