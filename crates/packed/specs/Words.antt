-- Words of 32 bits in bytes, the lowest byte first.
use Rattle.std.specs.Prelude.{ℕ, ◌+◌, ◌*◌, min, List, ◌++◌, length, drop, slice_index}
use Rattle.std.specs.Int.{to_le_bytes, w32}
use Rattle.std.specs.List.{flat_map}

-- the word of 32 bits whose first byte stands at place k
abbrev pub word_at : List ℕ → ℕ → ℕ
word_at bs k =
    slice_index bs k + slice_index bs (k + 1) * 256 + slice_index bs (k + 2) * 65536 + slice_index bs (k + 3) * 16777216

-- a count as a word; any count above the greatest word is that word
abbrev pub count_word : ℕ → ℕ
count_word k = min k 4294967295

-- the bytes of these words, one word after the other
unfoldable pub bytes_of : List ℕ → List ℕ
bytes_of ws = flat_map (to_le_bytes w32) ws

-- these bytes with the words written over their beginning, and all behind as it was
unfoldable pub begun_with : List ℕ → List ℕ → List ℕ
unfolding bytes_of
begun_with ws bs = bytes_of ws ++ drop (4 * length ws) bs
