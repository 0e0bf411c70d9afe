-- Byte 7 has its top bit set in any case, so that `low_first` reads the number of one of the seven below it, or 7.
use Rattle.select_in_word.proofs.FirstAbove.{low_first}
use Rattle.select_in_word.proofs.first_above_low.Goals as goal

pub returns : goal.returns
returns c =
    low_first c.args.sums c.args.k c.tops_above-tops.result c.tops_above-tops.ensures
