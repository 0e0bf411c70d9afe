-- The bytes' ones are the steps of the rank from byte to byte, so that their running sums are the ranks behind each byte.
use mathlib.Core.Path.{◌∙◌}
use Prim.Native.Nat.{suc}
use native.Mathlib.Omega.{arith}
use Rattle.rank_sel.proofs.Rank.{rank_le}
use Rattle.select_in_word.specs.Bit.{bit}
use Rattle.select_in_word.proofs.Broadword.{rank_at, steps_sum, byte_steps}
use Rattle.select_in_word.proofs.byte_sums.Goals as goal

pub running_sums-requires : goal.running_sums-requires
running_sums-requires c =
    let w = c.args.word in
    let x = c.byte_ones.result in
    omega (arith, steps_sum (rank_at w) x 8 (byte_steps w x c.byte_ones.ensures) (omega arith), rank_le (bit w) 64)

pub returns : goal.returns
returns c j l =
    let w = c.args.word in
    let x = c.byte_ones.result in
    c.running_sums.ensures j l ∙ steps_sum (rank_at w) x (suc j) (byte_steps w x c.byte_ones.ensures) (omega arith)
