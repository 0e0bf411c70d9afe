-- What is taken off leaves no more above the one sought than remained above the first, so that the word has it.
use native.Mathlib.Omega.{arith}
use Rattle.select_in_word.proofs.Bit.{ones_rank}
use Rattle.select_in_word.proofs.Select.{above_some}
use Rattle.select_in_word.proofs.one_on.Goals as goal

pub one_above-position-requires : goal.one_above-position-requires
one_above-position-requires c =
    let a = c.args in
    omega (arith, above_some a.word a.one.remaining a.one.position c.requires.0, ones_rank 64 a.word c.ranges.word.fits)
