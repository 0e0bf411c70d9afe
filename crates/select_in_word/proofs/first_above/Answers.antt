-- `above_first` reads the number from the trailing zeros.
use Rattle.select_in_word.proofs.FirstAbove.{above_first}
use Rattle.select_in_word.proofs.first_above.Goals as goal

pub returns : goal.returns
returns c =
    above_first c.args.sums c.args.k c.tops_above.result c.tops_above.ensures
