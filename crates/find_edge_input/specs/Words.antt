-- The capture's bytes as words.
use Rattle.std.specs.Prelude.{◌≡◌, ℕ, ◌+◌, ◌*◌, ◌/◌, ◌%◌, ◌<◌, List, ◌++◌, length, drop, slice_index}
use Rattle.rank_sel.specs.Numbers.{ceil_div}
use Rattle.select_in_word.specs.Bit.{bit}
use Rattle.bit_record.specs.Record.{bit_at}
use Rattle.inventory.specs.Lanes.{pack, tabulate}

-- word i: byte 8i + 256 * byte (8i + 1) + 256^2 * byte (8i + 2) + .., eight bytes; a byte past the end counts as 0
unfoldable pub word_of : List ℕ → ℕ → ℕ
word_of bytes i = pack 8 (λ j. slice_index bytes (8 * i + j)) 8

-- the words of the bytes, and after them what stood there
unfoldable pub packed : List ℕ → List ℕ → List ℕ
packed bytes words = tabulate (word_of bytes) (ceil_div (length bytes) 8) ++ drop (ceil_div (length bytes) 8) words

-- bit p of the words is bit p mod 8, lowest first, of byte p div 8, for each bit of the bytes
abbrev pub SameBits : List ℕ → List ℕ → Type 0
SameBits bytes words = (p : ℕ) → p < 8 * length bytes → bit_at words p ≡ bit (slice_index bytes (p / 8)) (p % 8)
