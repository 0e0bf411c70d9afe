-- Computed for each of the 128 numbers, which the bytes are modulo 128 (`same_table`).
use mathlib.Core.Path.{refl}
use Prim.Native.Nat.{◌*◌, ◌%◌}
use native.Mathlib.Nat.{mod-eq_of_lt}
use native.Mathlib.Omega.{arith}
use lib.Bits.{bit_and}
use Rattle.rank_sel.specs.Rank.{ind}
use Rattle.select_in_word.specs.Bit.{bit}
use Rattle.select_in_word.specs.Bytes.{byte_of}
use Rattle.select_in_word.proofs.Table.{list, same_table}
use Rattle.select_in_word.proofs.spread_low.Goals as goal

pub returns : goal.returns
unfolding list byte_of bit
returns c j l =
    let e = mod-eq_of_lt c.requires in
    rw e at
    (same_table (λ b. byte_of (bit_and (b % 128 * 0x0408_1020_4081) 0x0001_0101_0101_0101)) (λ b i. ind (bit (b % 128) i)) refl
    c.args.bits j (omega arith) l)
