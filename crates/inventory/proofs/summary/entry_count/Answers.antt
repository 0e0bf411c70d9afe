-- The count of entries is N / 2^L, rounded up.
use Rattle.inventory.specs.Index.{entries_of}
use Rattle.inventory.proofs.summary.entry_count.Goals as goal

pub returns : goal.returns
unfolding entries_of
returns c =
    c.ceil_shift.ensures
