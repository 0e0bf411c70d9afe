-- Words as bytes, eight to a word, the lowest first. Bytes are lanes of eight bits.
use Rattle.std.specs.Prelude.{List, [], ◌∷◌, ◌++◌, ℕ, ◌+◌, ◌*◌, length, take, drop, get_or}
use Rattle.inventory.specs.Lanes.{lane_of, pack, tabulate}

unfoldable pub word_bytes : ℕ → List ℕ
word_bytes w = tabulate (lane_of 8 w) 8

-- the bytes of some words
unfoldable pub bytes_of : List ℕ → List ℕ
bytes_of [] = []
bytes_of (w ∷ ws) = word_bytes w ++ bytes_of ws

-- the word whose bytes stand from a place on
unfoldable pub word_from : List ℕ → ℕ → ℕ
word_from bytes at = pack 8 (λ j. get_or bytes (at + j) 0) 8

-- n words from a place on
unfoldable pub words_from : List ℕ → ℕ → ℕ → List ℕ
words_from bytes at n = tabulate (λ i. word_from bytes (at + 8 * i)) n

-- a list with others in the place of its own from a place on, and all else as it was
unfoldable pub put_at : ℕ → List ℕ → List ℕ → List ℕ
put_at at new old = take at old ++ (new ++ drop (at + length new) old)
