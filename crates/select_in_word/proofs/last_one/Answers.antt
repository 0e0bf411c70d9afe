-- The highest one stands at the word's logarithm (`top_above`).
use native.Mathlib.Nat.{pow-suc}
use native.Mathlib.Omega.{arith}
use Rattle.select_in_word.proofs.Near.{top_above}
use Rattle.select_in_word.proofs.last_one.Goals as goal

pub returns : goal.returns
returns c =
    let s = c.ilog2.ensures in
    top_above c.args.word c.ilog2.result s.bound s.power_le (omega (arith, s.next_power_gt, pow-suc 2 c.ilog2.result))
