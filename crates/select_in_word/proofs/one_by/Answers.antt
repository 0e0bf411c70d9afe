-- The first byte whose sum is above k has the sought one (`in_byte`); the same sums over that byte's low bits name the bit
-- (`sought_bit`).
use mathlib.Core.Path.{◌∙◌}
use Prim.Native.Nat.{ℕ, suc, ◌+◌, ◌*◌, ◌/◌, ◌%◌, ◌^◌}
use native.Mathlib.Omega.{arith}
use lib.Bits.{bit_and}
use Rattle.rank_sel.specs.Rank.{rank}
use Rattle.rank_sel.specs.Seek.{Sought}
use Rattle.rank_sel.proofs.Rank.{rank_le}
use Rattle.select_in_word.specs.Bit.{bit}
use Rattle.select_in_word.specs.Bytes.{Bytes}
use Rattle.select_in_word.proofs.Bit.{ones_rank}
use Rattle.select_in_word.proofs.Broadword.{InByte, steps_sum, bit_steps, in_byte, sought_bit}
use Rattle.select_in_word.proofs.one_by.Goals.{After-first_above-at, After-first_above_low, After-running_sums-inner}
use Rattle.select_in_word.proofs.one_by.Goals as goal

pub first_above-at-requires : goal.first_above-at-requires
first_above-at-requires c =
    let w = c.args.word in (
      omega (arith, ones_rank 64 w c.ranges.word.fits, rank_le (bit w) 64),
      λ j l. omega (arith, c.requires.0 j l, rank_le (bit w) (8 * suc j)),
    )

module _ (c : After-first_above-at) where
  abbrev before_bits : ℕ
  before_bits = bit_and ((c.args.sums * 2 ^ 8) % 2 ^ 64 / 2 ^ c.first_above-at.result) 255

  the_byte :
      let a = c.args in
      InByte a.word a.k c.first_above-at.result before_bits
  the_byte =
      let a = c.args in
      in_byte a.word a.sums c.ranges.sums.fits c.requires.0 a.k c.first_above-at.result
      (omega (arith, ones_rank 64 a.word c.ranges.word.fits)) c.first_above-at.ensures

pub overflow_shr-before : goal.overflow_shr-before
overflow_shr-before c =
    omega (arith, the_byte c)

pub overflow_shr-word : goal.overflow_shr-word
overflow_shr-word c =
    omega (arith, the_byte c)

pub running_sums-inner-requires : goal.running_sums-inner-requires
running_sums-inner-requires c =
    let b = bit_and (c.args.word / 2 ^ c.first_above-at.result) 127 in
    let x = c.spread_low.result in
    omega (arith, steps_sum (rank (bit b)) x 8 (bit_steps b x c.spread_low.ensures) (omega arith), rank_le (bit b) 8)

module _ (c : After-running_sums-inner) where
  abbrev low : ℕ
  low = bit_and (c.args.word / 2 ^ c.first_above-at.result) 127

  bit_sums : Bytes (λ j. rank (bit low) (suc j)) c.running_sums-inner.result
  bit_sums j l =
      let x = c.spread_low.result in
      c.running_sums-inner.ensures j l ∙ steps_sum (rank (bit low)) x (suc j) (bit_steps low x c.spread_low.ensures) (omega arith)

pub overflow_sub-k : goal.overflow_sub-k
overflow_sub-k c =
    (the_byte (goal.at.overflow_sub-k c).After-first_above-at).from

pub first_above_low-requires : goal.first_above_low-requires
first_above_low-requires c =
    let w = c.args.word in (
      omega (arith, ones_rank 64 w c.ranges.word.fits, rank_le (bit w) 64),
      λ j l. omega (arith, bit_sums c j l, rank_le (bit (low c)) (suc j)),
    )

module _ (c : After-first_above_low) where
  found :
      let a = c.args in
      Sought (bit a.word) 64 0 a.k
      (c.first_above-at.result + c.first_above_low.result)
  found =
      let a = c.args in
      let at_first_above = (goal.at.After-first_above_low c).After-first_above-at in
      sought_bit a.word a.k c.first_above-at.result (before_bits at_first_above) c.running_sums-inner.result c.first_above_low.result
      (the_byte at_first_above) (bit_sums (goal.at.After-first_above_low c).After-running_sums-inner) c.first_above_low.ensures

pub overflow_add-result : goal.overflow_add-result
overflow_add-result c =
    omega (arith, found c)

pub returns : goal.returns
returns c =
    found c
