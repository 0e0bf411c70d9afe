-- The top byte of the sums counts the word's ones: with no more than k the word is passed. Else `one_by` finds the one, and of
-- all ones those below it and itself are taken off.
use mathlib.Core.Path.{◌≡◌}
use Prim.Native.Nat.{◌/◌, ◌^◌}
use native.Mathlib.Omega.{arith}
use Rattle.rank_sel.specs.Rank.{rank}
use Rattle.select_in_word.specs.Bit.{bit}
use Rattle.select_in_word.proofs.Bit.{ones_rank}
use Rattle.select_in_word.proofs.Broadword.{total}
use Rattle.select_in_word.proofs.Select.{above_sought, word_seek_at, word_seek_past}
use Rattle.select_in_word.proofs.seek_in_word.Goals.{After-byte_sums-sums}
use Rattle.select_in_word.proofs.seek_in_word.Goals as goal

module _ (c : After-byte_sums-sums) where
  ones_total : c.byte_sums-sums.result / 2 ^ 56 ≡ rank (bit c.args.word) 64
  ones_total = total c.args.word c.byte_sums-sums.result (omega arith) c.byte_sums-sums.ensures

pub returns-then-ones-k : goal.returns-then-ones-k
returns-then-ones-k c =
    let a = c.args in
    word_seek_past a.word a.k (c.byte_sums-sums.result / 2 ^ 56) c.ranges.word.fits
    (ones_total (goal.at.returns-then-ones-k c).After-byte_sums-sums) c.if-ones-k.true

pub one_by-position-requires : goal.one_by-position-requires
one_by-position-requires c =
    let at = (goal.at.one_by-position-requires c).After-byte_sums-sums in
    (c.byte_sums-sums.ensures, omega (arith, ones_total at, c.if-ones-k.false, ones_rank 64 c.args.word c.ranges.word.fits))

pub returns : goal.returns
returns c =
    let a = c.args in
    let p = c.one_by-position.result in
    let s = c.one_by-position.ensures in
    word_seek_at a.word a.k p _ s
    (omega (arith, ones_total (goal.at.returns c).After-byte_sums-sums, above_sought a.word a.k p s, c.if-ones-k.false))
