-- Layers of w records, one after the other
use Rattle.std.proofs.Common.{◌≡◌, ℕ, ◌+◌, ◌-◌, ◌*◌, ◌<◌, ◌≤◌, ◌≢◌, List, length, take, sym, ap, ◌∙◌, add-mul, one-mul, arith}
use Rattle.std.proofs.lemmas.List.{length-take-le}

pub one_more : (left w : ℕ) → left ≢ 0 → left * w ≡ (left - 1) * w + w
one_more left w ne = let e : left ≡ left - 1 + 1 = omega arith in ap (λ n. n * w) e ∙ omega (arith, add-mul (left - 1) 1 w, one-mul w)

pub rest-fits : (left w m : ℕ) → left ≢ 0 → left * w < m → (left - 1) * w < m - w
rest-fits left w m ne le = omega (arith, one_more left w ne)

pub front_long : {X : Type 0} (w : ℕ) (xs : List X) → w ≤ length xs → w ≡ length (take w xs)
front_long w xs h = sym (length-take-le w xs h)

-- the layers before layer i - 1, itself, and those after it
pub layers_in : (i n w : ℕ) → 1 ≤ i → i ≤ n → (i - 1) * w + w + (n - i) * w ≡ n * w
layers_in i n w low high =
    let e : n ≡ i - 1 + 1 + (n - i) = omega arith in
    sym (ap (λ k. k * w) e ∙ omega (arith, add-mul (i - 1 + 1) (n - i) w, add-mul (i - 1) 1 w, one-mul w))
