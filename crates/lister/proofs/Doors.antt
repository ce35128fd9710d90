-- Each list of all doors, none twice, has the doors by number in another order.
use Rattle.std.proofs.Common.{◌≡◌, ℕ, zero, suc, ◌+◌, ◌≤◌, List, [], ◌∷◌, length, take, All, refl, ◌∙◌, subst₂, map-id, arith}
use Rattle.std.specs.Prelude.{if◌then◌else◌, nat_le, nat_lt, ◌&&◌}
use Rattle.std.specs.List.{range_with_len}
use Rattle.std.specs.List.Sorted.{IsPermutation}
use Rattle.std.proofs.lemmas.Bool.{cases_Bool}
use Rattle.std.proofs.lemmas.Bool.Decides.{nat_tests}
use Rattle.std.proofs.lemmas.List.Elements.{All-from_get_or}
use Rattle.std.proofs.lemmas.List.FromFn.{length-range_with_len, get_or-range_with_len, take-map-range_with_len}
use Rattle.std.proofs.lemmas.List.Sorted.{All-permutation, length_permutation}
use Rattle.doors.specs.Orders.{IsPartOrder, is_in, is_door}
use Rattle.doors.proofs.Orders.{is-in, in_is, is-door, door-is, not-door}
use Rattle.doors.proofs.Sets.{part_length, part-door}
use Rattle.lister.proofs.Permutations.{times, times-cons, permuted}

-- ---- how often a door stands in a list

times-in : (n k : ℕ) (w : List ℕ) → IsPartOrder n w → times k w ≡ (if is_in k w then 1 else 0)
times-in n k [] p = refl
times-in n k (x ∷ w) p = grind (arith, nat_tests, times-cons k x w, times-in n k w, is-in k w)

-- a list of n doors, none twice, has each door once
times-door : (n k : ℕ) (w : List ℕ) → IsPartOrder n w → length w ≡ n → times k w ≡ (if is_door n k then 1 else 0)
times-door n k w p e =
    grind (arith, cases_Bool (is_in k w), times-in n k w, is-in k w, in_is k w, is-door n k, door-is n k, not-door n k, part-door n w k, part_length n (k ∷ w))

-- ---- the doors by number

times-range : (k a m : ℕ) → times k (range_with_len a m) ≡ (if nat_le a k && nat_lt k (a + m) then 1 else 0)
times-range k a zero = grind (arith, nat_tests)
times-range k a (suc m) = grind (arith, nat_tests, times-cons k a (range_with_len (a + 1) m), times-range k (a + 1) m)

pub reordered : (n : ℕ) (w : List ℕ) → IsPartOrder n w → length w ≡ n → IsPermutation (range_with_len 1 n) w
reordered n w p e = permuted (range_with_len 1 n) w (λ k. grind (arith, nat_tests, times-range k 1 n, times-door n k w p e))

-- ---- what has the doors by number in another order

pub long : (n : ℕ) (v : List ℕ) → IsPermutation (range_with_len 1 n) v → length v ≡ n
long n v p = length_permutation (range_with_len 1 n) v p ∙ length-range_with_len 1 n

pub small : (n : ℕ) (v : List ℕ) → n ≤ 16 → IsPermutation (range_with_len 1 n) v → All (λ j. j ≤ 16) v
small n v h p =
    All-permutation (λ j. j ≤ 16) (range_with_len 1 n) v p
    (All-from_get_or (λ j. j ≤ 16) (range_with_len 1 n) 0 (λ i e. omega (arith, length-range_with_len 1 n, get_or-range_with_len 1 n i 0)))

-- the first of the doors by number
pub by_number : (n : ℕ) → n ≤ 16 → take n (range_with_len 1 16) ≡ range_with_len 1 n
by_number n h =
    subst₂ (λ (a b : List ℕ). take n a ≡ b) (map-id (range_with_len 1 16)) (map-id (range_with_len 1 n)) (take-map-range_with_len (λ j. j) 1 16 n h)
