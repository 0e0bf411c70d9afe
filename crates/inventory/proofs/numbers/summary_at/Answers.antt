-- The nine reads lie within the array; the polarity and the three logarithms are what `polarity_at` and `cut` return.
use Rattle.inventory.specs.Numbers.{summary_at}
use Rattle.inventory.proofs.numbers.summary_at.Goals as goal

pub returns : goal.returns
unfolding summary_at
returns c =
    rw (c.polarity_at.ensures, c.cut.ensures, c.cut-2.ensures, c.cut-3.ensures)
