-- The doors that have an arc, in place of all sixteen
use Rattle.std.proofs.Common.{◌≡◌, ℕ, ◌+◌, ◌<◌, ◌≤◌, Bool, cond, not, eqb, List, [], ◌∷◌, ◌++◌, length, get_or, take, set, fold, refl, arith}
use mir.Val.{bool_byte}
use Rattle.std.specs.List.{range_with_len, filter}
use Rattle.std.proofs.lemmas.Bool.Decides.{nat_tests}
use Rattle.std.proofs.lemmas.Grind.{common_steps}
use Rattle.std.proofs.lemmas.List.Elements.{filter-append}
use Rattle.labels.specs.Passes.{doors_out}
use Rattle.labels.proofs.Folds.{counting_more}

pub byte-most : (q : Bool) → bool_byte q ≤ 1
byte-most q = grind (arith, common_steps)

put-next : (q : Bool) (xs : List ℕ) (m k : ℕ) → m < length xs → take (m + bool_byte q) (set xs m k) ≡ take m xs ++ cond q (k ∷ []) []
put-next q xs m k lt = grind (arith, common_steps)

-- of the numbers below k those with a property, and k written behind them, which counts only if it has it
pub listed_more : (p : ℕ → Bool) (xs : List ℕ) (m k : ℕ) → m < length xs → take m xs ≡ filter p (range_with_len 0 k)
    → take (m + bool_byte (p k)) (set xs m k) ≡ filter p (range_with_len 0 (k + 1))
listed_more p xs m k lt e = grind (arith, common_steps, put-next (p k) xs m k lt, filter-append p (range_with_len 0 k) (k ∷ []), counting_more k, e)

-- a fold over all doors that does nothing where there is no arc
pub folded_out : {B : Type 0} (f : B → ℕ → B) (to : List ℕ) → ((b : B) (k : ℕ) → get_or to k 0 ≡ 0 → f b k ≡ b) → (b : B) → fold f b (range_with_len 0 16) ≡ fold f b (doors_out to)
folded_out {B} f to none b = go b (range_with_len 0 16)
  where
    go : (b : B) (ks : List ℕ) → fold f b ks ≡ fold f b (filter (λ k. not (eqb (get_or to k 0) 0)) ks)
    go b [] = refl
    go b (k ∷ ks) = grind (arith, nat_tests, none b k, go b ks, go (f b k) ks)

-- each is one of the sixteen
pub listed_door : (xs : List ℕ) (m i : ℕ) → ((a : ℕ) → a < m → get_or xs a 0 < 16) → i < length (take m xs) → get_or (take m xs) i 0 < 16
listed_door xs m i h lt = grind (arith, common_steps, h i)
