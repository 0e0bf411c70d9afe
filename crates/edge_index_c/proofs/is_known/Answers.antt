-- Where the first comparison fails, so does the whole; where it holds, the second speaks for it.
use borrow.Author.Tests.{le-leb, lt-leb}
use Rattle.edge_index_c.specs.Codes.{known}
use Rattle.edge_index_c.proofs.is_known.Goals as goal

pub returns-then-polarity-le1 : goal.returns-then-polarity-le1
unfolding known
returns-then-polarity-le1 c =
    rw (le-leb _ _ c.if-polarity-le1.true)

pub returns-else-polarity-le1 : goal.returns-else-polarity-le1
unfolding known
returns-else-polarity-le1 c =
    rw (lt-leb _ _ c.if-polarity-le1.false)
