-- A set of the doors seen so far tells whether a list is a part order.
use Rattle.std.proofs.Common.{◌≡◌, ℕ, ◌+◌, ◌^◌, ◌<◌, false, List, [], ◌∷◌, ◌++◌, length, slice_index, take, drop, sym, ap, ◌∙◌, take-append-drop, arith}
use lib.Bits.{bit_or}
use Rattle.std.proofs.lemmas.List.{take_more, drop_more}
use Rattle.std.proofs.lemmas.Bool.{false_from_ne_true}
use Rattle.doors.specs.Orders.{StandsIn, IsDoor, IsPartOrder, is_part_order}
use Rattle.doors.specs.Sets.{Has}
use Rattle.doors.proofs.Orders.{is-part, next-part, part-next, in-last, last-in}
use Rattle.doors.proofs.Sets.{has_left, has-added, has_more}

-- w is a part order, and the set has its doors and no other
pub record Seen (n set : ℕ) (w : List ℕ) : Type 0 where
  pub part : IsPartOrder n w
  pub has_in : (j : ℕ) → Has set j → StandsIn j w
  pub in-has : (j : ℕ) → StandsIn j w → Has set j

seen_last : (n set : ℕ) (w : List ℕ) (j : ℕ) → Seen n set w → IsDoor n j → ¬ Has set j → Seen n (bit_or set (2 ^ j)) (w ++ j ∷ [])
seen_last n set w j s d new = record {
  part = next-part n w j s.part d (λ h. new (s.in-has j h));
  has_in = λ i h. grind (arith, last-in w i j, has_more set j i, s.has_in i);
  in-has = λ i h. grind (arith, in-last w i j, has_left set (2 ^ j) i, has-added set j, s.in-has i);
}

-- one more door of the list
pub seen_more : (n set : ℕ) (w : List ℕ) (i : ℕ) → i < length w → Seen n set (take i w) → IsDoor n (slice_index w i) → ¬ Has set (slice_index w i)
    → Seen n (bit_or set (2 ^ slice_index w i)) (take (i + 1) w)
seen_more n set w i h s d new = rw (take_more w i 0 h) (seen_last n set (take i w) (slice_index w i) s d new)

-- a list with a number that is no door, or was seen before, is no part order
pub broken : (n set : ℕ) (w : List ℕ) (i : ℕ) → i < length w → Seen n set (take i w) → (IsDoor n (slice_index w i) → Has set (slice_index w i)) → is_part_order n w ≡ false
broken n set w i h s bad = false_from_ne_true _ (λ e. absurd (no_part (is-part n w e)))
  where
    split : w ≡ take i w ++ slice_index w i ∷ drop (i + 1) w
    split = sym (take-append-drop i w) ∙ ap (λ (v : List ℕ). take i w ++ v) (drop_more w i 0 h)

    no_part : ¬ IsPartOrder n w
    no_part p =
        let x = part-next n (take i w) (slice_index w i) (drop (i + 1) w) (rw split at p) in
        x.new (s.has_in (slice_index w i) (bad x.door))
