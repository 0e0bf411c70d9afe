-- The mask is 2^n - 1, and what it keeps is the rest by 2^n (`low_mask`).
use Rattle.select_in_word.proofs.Shift.{low_mask}
use Rattle.select_in_word.proofs.low_bits.Goals as goal

pub returns : goal.returns
returns c =
    low_mask c.args.word c.args.n c.requires
