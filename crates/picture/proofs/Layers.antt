-- The layers of a picture, one more at a time.
use Rattle.std.proofs.Common.{◌≡◌, ℕ, ◌+◌, List, [], ◌++◌, sym, ap, ◌∙◌}
use Rattle.std.proofs.lemmas.List.{flat_map_more}
use Rattle.std.specs.List.{flat_map, range_with_len}
use Rattle.layers.specs.Calls.{layer}
use Rattle.picture.specs.Tables.{Place}
use Rattle.picture.specs.Pictures.{layer_text, layers_text}
use Rattle.picture.proofs.Spaced.{range-more}

pub layers_text-more : (n W : ℕ) (xs : List Place) (k : ℕ) → layers_text n W xs k ++ layer_text k (layer n W k xs) ≡ layers_text n W xs (k + 1)
unfolding layers_text
layers_text-more n W xs k =
    let f : ℕ → List ℕ = λ i. layer_text i (layer n W i xs) in
    flat_map_more f [] (range_with_len 0 k) k ∙ ap (flat_map f) (sym (range-more k))
