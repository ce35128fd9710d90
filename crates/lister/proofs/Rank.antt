-- A list as a number whose digits are below 17: what comes before another list is less.
use Rattle.std.proofs.Common.{◌≡◌, ℕ, ◌+◌, ◌*◌, ◌^◌, ◌<◌, ◌≤◌, List, [], ◌∷◌, length, All, inl, inr, arith, mul-le-mul_right, pow-suc}
use Rattle.std.proofs.lemmas.List.Elements.{All-head, All-tail}
use Rattle.lister.specs.Orders.{ComesBefore}

abbrev pub rank : List ℕ → ℕ
rank [] = 0
rank (x ∷ w) = x * 17 ^ length w + rank w

pub rank-lt : (w : List ℕ) → All (λ j. j ≤ 16) w → rank w < 17 ^ length w
rank-lt [] h = omega arith
rank-lt (x ∷ w) h =
    let rest : rank w < 17 ^ length w = rank-lt w (All-tail (λ j. j ≤ 16) x w h) in
    omega (arith, mul-le-mul_right (17 ^ length w) (All-head (λ j. j ≤ 16) x w h), pow-suc 17 (length w))

-- of two lists of one length
pub rank-before : (v w : List ℕ) → length v ≡ length w → All (λ j. j ≤ 16) v → ComesBefore v w → rank v < rank w
rank-before v [] e h b = absurd b
rank-before [] (y ∷ w) e h b = absurd (omega arith)
rank-before (x ∷ v) (y ∷ w) e h (inl b) =
    let more : (x + 1) * 17 ^ length v ≤ y * 17 ^ length v = mul-le-mul_right (17 ^ length v) (omega arith) in
    grind (arith, rank-lt v (All-tail (λ j. j ≤ 16) x v h))
rank-before (x ∷ v) (y ∷ w) e h (inr b) = grind (arith, rank-before v w (omega arith) (All-tail (λ j. j ≤ 16) x v h) b.1)
