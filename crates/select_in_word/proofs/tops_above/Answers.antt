-- The bytes with their top bits set are no less than what is taken off, and `apart_top` reads the bit that is left.
use native.Mathlib.Omega.{arith}
use Rattle.select_in_word.proofs.FirstAbove.{topped_ge, apart_top}
use Rattle.select_in_word.proofs.tops_above.Goals as goal

pub overflow_sub-result : goal.overflow_sub-result
overflow_sub-result c =
    omega (arith, topped_ge c.args.sums)

pub returns : goal.returns
returns c =
    apart_top c.args.sums c.args.k c.requires.0 c.requires.1
