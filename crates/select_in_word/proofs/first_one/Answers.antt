-- The lowest one stands above the trailing zeros.
use Rattle.select_in_word.proofs.Near.{first_sought}
use Rattle.select_in_word.proofs.first_one.Goals as goal

pub returns : goal.returns
returns c =
    first_sought 64 c.args.word c.ranges.word.fits c.requires
