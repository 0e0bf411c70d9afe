-- The packed words have the capture's order of samples: bit p is bit p mod 8, lowest first, of byte p div 8.
use Rattle.std.proofs.Common.{◌≡◌, ℕ, ◌+◌, ◌*◌, ◌/◌, ◌%◌, ◌^◌, ◌<◌, List, length, get_or, drop, sym, ap, ◌∙◌, arith}
use lib.ListN.{get_or-append}
use Rattle.rank_sel.specs.Numbers.{ceil_div}
use Rattle.select_in_word.specs.Bit.{bit}
use Rattle.select_in_word.proofs.Bit.{bit_low, bit_shr}
use Rattle.bit_record.specs.Record.{bit_at}
use Rattle.inventory.specs.Lanes.{lane_of, tabulate}
use Rattle.inventory.proofs.Lanes.{tab_at, tab_length}
use Rattle.inventory.proofs.Unpack.{pack-lane}
use Rattle.find_edge_input.specs.Words.{packed, word_of}

module _ (bytes words : List ℕ) (small : (i : ℕ) → get_or bytes i 0 < 2 ^ 8) (p : ℕ) (h : p < 8 * length bytes) where
  word_at : get_or (packed bytes words) (p / 64) 0 ≡ word_of bytes (p / 64)
  unfolding packed
  word_at =
      let n = ceil_div (length bytes) 8 in
      let l : p / 64 < n = omega arith in
      get_or-append (tabulate (word_of bytes) n) (drop n words) 0 (p / 64) (rw (tab_length (word_of bytes) n) l)
      ∙ tab_at (word_of bytes) n (p / 64) l

  byte_in : word_of bytes (p / 64) / 2 ^ (8 * (p % 64 / 8)) % 2 ^ 8 ≡ get_or bytes (p / 8) 0
  unfolding word_of lane_of
  byte_in =
      pack-lane 8 (λ j. get_or bytes (8 * (p / 64) + j) 0) (λ j. small (8 * (p / 64) + j)) 8 (p % 64 / 8) (omega arith)
      ∙ ap (λ (k : ℕ). get_or bytes k 0) (omega arith)

  pub same_bits : bit_at (packed bytes words) p ≡ bit (get_or bytes (p / 8) 0) (p % 8)
  unfolding bit_at
  same_bits =
      let w = word_of bytes (p / 64) in
      let k = 8 * (p % 64 / 8) in
      let e : p % 64 ≡ k + p % 8 = omega arith in
      ap (λ (z : ℕ). bit z (p % 64)) word_at
      ∙ ap (bit w) e
      ∙ sym (bit_shr w k (p % 8))
      ∙ sym (bit_low (w / 2 ^ k) 8 (p % 8) (omega arith))
      ∙ ap (λ (z : ℕ). bit z (p % 8)) byte_in
