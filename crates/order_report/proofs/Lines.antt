-- The lines of the finishes, one by one.
use Rattle.std.proofs.Common.{◌≡◌, ℕ, ◌+◌, ◌<◌, min, List, [], ◌∷◌, ◌++◌, take, length, length-append, slice_index_or, flat_map, ap, ap₂, ◌∙◌, sym, arith}
use Rattle.std.specs.List.{zip}
use Rattle.std.proofs.lemmas.List.{take_all, take_more, flat_map_more}
use Rattle.std.proofs.lemmas.Slice.Zip.{length-zip, get_or-zip}
use Rattle.order_report.specs.Texts.{finish_line}

module _ (ks vs : List ℕ) where
  -- the lines of the first i doors
  abbrev pub lines : ℕ → List ℕ
  lines i = flat_map finish_line (take i (zip ks vs))

  -- a door more, in a loop over X that has come past xs
  pub lines_more : {X : Type 0} (xs : List X) (x : X) (j m : ℕ) → length xs < length ks → length xs < length vs → j ≡ slice_index_or ks (length xs) 0 → m ≡ slice_index_or vs (length xs) 0
      → lines (length xs) ++ finish_line (j, m) ≡ lines (length (xs ++ x ∷ []))
  lines_more xs x j m a b p q =
      let i = length xs in
      let inside : i < length (zip ks vs) = omega (arith, length-zip ks vs) in
      let next : slice_index_or (zip ks vs) i (0, 0) ≡ (j, m) = get_or-zip ks vs i (0, 0) a b ∙ sym (ap₂ (λ (x y : ℕ). (x, y)) p q) in
      let longer : i + 1 ≡ length (xs ++ x ∷ []) = omega (arith, length-append xs (x ∷ [])) in
      flat_map_more finish_line [] (take i (zip ks vs)) (j, m)
      ∙ ap (flat_map finish_line) (ap (λ (s : ℕ × ℕ). take i (zip ks vs) ++ s ∷ []) (sym next) ∙ sym (take_more (zip ks vs) i (0, 0) inside))
      ∙ ap lines longer

  pub lines_all : (i : ℕ) → i ≡ min (length ks) (length vs) → lines i ≡ flat_map finish_line (zip ks vs)
  lines_all i e = ap (flat_map finish_line) (take_all i (zip ks vs) (omega (arith, length-zip ks vs)))
