-- Of the word's ones those that remain above it and it itself are not below it: the one with the others below it is meant.
use mathlib.Core.Path.{◌≡◌}
use Prim.Native.Nat.{◌/◌, ◌^◌, ◌<◌}
use native.Mathlib.Omega.{arith}
use Rattle.rank_sel.specs.Rank.{rank}
use Rattle.select_in_word.specs.Bit.{bit}
use Rattle.select_in_word.proofs.Bit.{ones_rank}
use Rattle.select_in_word.proofs.Broadword.{total}
use Rattle.select_in_word.proofs.Select.{above_sought}
use Rattle.select_in_word.proofs.one_above.Goals.{After-byte_sums-sums}
use Rattle.select_in_word.proofs.one_above.Goals as goal

module _ (c : After-byte_sums-sums) where
  ones_total : c.byte_sums-sums.result / 2 ^ 56 ≡ rank (bit c.args.word) 64
  ones_total = total c.args.word c.byte_sums-sums.result (omega arith) c.byte_sums-sums.ensures

  enough : c.args.remaining < rank (bit c.args.word) 64
  enough = omega (arith, ones_rank 64 c.args.word c.ranges.word.fits, c.requires)

pub overflow_sub-ones : goal.overflow_sub-ones
overflow_sub-ones c =
    let at = (goal.at.overflow_sub-ones c).After-byte_sums-sums in
    omega (arith, ones_total at, enough at)

pub overflow_sub-ones-2 : goal.overflow_sub-ones-2
overflow_sub-ones-2 c =
    let at = (goal.at.overflow_sub-ones-2 c).After-byte_sums-sums in
    omega (arith, ones_total at, enough at)

pub one_by-requires : goal.one_by-requires
one_by-requires c =
    let at = (goal.at.one_by-requires c).After-byte_sums-sums in
    (c.byte_sums-sums.ensures, omega (arith, ones_total at, enough at, ones_rank 64 c.args.word c.ranges.word.fits))

pub returns : goal.returns
returns c =
    let at = (goal.at.returns c).After-byte_sums-sums in
    let s = c.one_by.ensures in
    record {
      low = omega (arith, s.high);
      here = s.here;
      above = omega (arith, above_sought c.args.word _ c.one_by.result s, ones_total at, enough at);
    }
