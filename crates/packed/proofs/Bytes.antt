-- Words written over the beginning of a list of bytes.
use Rattle.std.proofs.Common.{◌≡◌, ℕ, ◌+◌, ◌-◌, ◌*◌, ◌≤◌, List, [], ◌∷◌, ◌++◌, length, take, drop, refl, append_assoc, arith, length-append}
use Rattle.std.proofs.Math.Seq.{take-append_seam, drop-append-add}
use Rattle.std.proofs.lemmas.List.{drop-drop}
use borrow.Rule.Slice.PartMut.{put_mid}
use Rattle.std.specs.Int.{to_le_bytes, w32}
use Rattle.std.proofs.lemmas.Grind.{common_steps, flat_map-append}
use Rattle.packed.specs.Words.{bytes_of, begun_with}

length-bytes_of : (ws : List ℕ) → length (bytes_of ws) ≡ 4 * length ws
unfolding bytes_of
length-bytes_of [] = refl
length-bytes_of (w ∷ ws) = grind (arith, common_steps, length-bytes_of ws)

bytes_of-append : (ws vs : List ℕ) → bytes_of (ws ++ vs) ≡ bytes_of ws ++ bytes_of vs
unfolding bytes_of
bytes_of-append ws vs = flat_map-append (to_le_bytes w32) ws vs

bytes_of-one : (w : ℕ) → bytes_of (w ∷ []) ≡ to_le_bytes w32 w
unfolding bytes_of
bytes_of-one w = refl

-- bytes written behind those that are written
stretched : (xs vs bs : List ℕ) (at : ℕ) → at ≡ length xs
    → take at (xs ++ drop at bs) ++ (vs ++ drop (at + 4) (xs ++ drop at bs)) ≡ (xs ++ vs) ++ drop (at + 4) bs
stretched xs vs bs at e = simp (e, take-append_seam, drop-append-add, drop-drop, append_assoc)

-- one word more
pub begun-more : (ws : List ℕ) (w : ℕ) (bs : List ℕ) (at : ℕ) → at ≡ 4 * length ws
    → take at (begun_with ws bs) ++ (to_le_bytes w32 w ++ drop (at + 4) (begun_with ws bs)) ≡ begun_with (ws ++ w ∷ []) bs
unfolding begun_with
begun-more ws w bs at e =
    let long : 4 * length (ws ++ w ∷ []) ≡ at + 4 = omega (arith, length-append ws (w ∷ [])) in
    let begun = stretched (bytes_of ws) (to_le_bytes w32 w) bs at (omega (arith, length-bytes_of ws)) in
    cc (bytes_of-append ws (w ∷ []), bytes_of-one w)

-- words at the beginning, and words behind them that were written first
pub begun-behind : (ws vs bs ys : List ℕ) (n : ℕ) → n ≡ 4 * length ws → n ≤ length bs → ys ≡ begun_with vs (take (length bs - n) (drop n bs))
    → begun_with ws (put_mid n (length bs - n) bs ys) ≡ begun_with (ws ++ vs) bs
unfolding begun_with
begun-behind ws vs bs ys n e h f = grind (arith, common_steps, bytes_of-append ws vs)
