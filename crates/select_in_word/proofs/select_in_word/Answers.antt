use mathlib.Core.Path.{◌≡◌, ap}
use Prim.Native.Nat.{ℕ, ◌+◌, ◌*◌, ◌/◌, ◌^◌}
use native.Mathlib.Omega.{arith}
use lib.Bits.{bit_and}
use Rattle.rank_sel.specs.Rank.{rank as ranks}
use Rattle.rank_sel.specs.Seek.{Sought}
use Rattle.rank_sel.proofs.Rank.{rank-zero}
use Rattle.rank_sel.proofs.Seek.{sought_wider}
use Rattle.select_in_word.specs.Bit.{bit}
use Rattle.select_in_word.specs.Select.{select_in_byte}
use Rattle.select_in_word.proofs.Holds.{holds_ones, holds_sought}
use Rattle.select_in_word.proofs.Select.{byte_sought, byte_le, holds_byte, word_at, word_refused}
use Rattle.select_in_word.proofs.select_in_word.Goals.{After-select_in_byte}
use Rattle.select_in_word.proofs.select_in_word.Goals as goal

pub loop-i-init : goal.loop-i-init
loop-i-init c =
    omega (arith, rank-zero (bit c.args.word))

pub overflow_add-position : goal.overflow_add-position
overflow_add-position c =
    omega (arith, byte_le _ _ _ c.select_in_byte.ensures)

-- the byte has the one
module _ (c : After-select_in_byte) where
  abbrev position : ℕ
  position = 8 * c.loop-i.i + c.select_in_byte.result

  found : Sought (bit c.args.word) 64 0 c.args.rank position
  found =
      let w = c.args.word in
      let p = 8 * c.loop-i.i in
      let k = c.loop-i.left in
      let b = bit_and (w / 2 ^ p) 255 in
      let h = holds_byte w p in
      let s = holds_sought 8 (bit w) p b k (select_in_byte b k) h
      (byte_sought b k h.small (omega (arith, c.if-left-ones.true, c.count_ones-ones.ensures.exact))) in
      rw c.select_in_byte.ensures
      (sought_wider (bit w) 8 p k 64 0 c.args.rank (p + select_in_byte b k) s (omega arith) (omega arith) (omega (arith, rank-zero (bit w))))

pub ones_above-remaining-requires : goal.ones_above-remaining-requires
ones_above-remaining-requires c =
    omega (arith, (found (goal.at.ones_above-remaining-requires c).After-select_in_byte).high)

pub returns-then-left-ones : goal.returns-then-left-ones
returns-then-left-ones c =
    let a = c.args in
    word_at a.word a.rank _ _ (found (goal.at.returns-then-left-ones c).After-select_in_byte) c.ones_above-remaining.ensures

pub loop-i-preserved : goal.loop-i-preserved
loop-i-preserved c =
    let w = c.args.word in
    let p = 8 * c.loop-i.i in
    let e : ranks (bit w) (8 * (c.loop-i.i + 1)) ≡ ranks (bit w) (p + 8) = ap (ranks (bit w)) (omega arith) in
    omega (arith, e, c.count_ones-ones.ensures.exact, holds_ones 8 (bit w) p (bit_and (w / 2 ^ p) 255) (holds_byte w p))

pub returns : goal.returns
returns c =
    let a = c.args in
    let w = a.word in
    let e : ranks (bit w) (8 * c.loop-i.i) ≡ ranks (bit w) 64 = ap (ranks (bit w)) (omega arith) in
    word_refused w a.rank (omega arith)
