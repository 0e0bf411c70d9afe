-- The first eight of a list are its take (`first_eight`), and three are set behind them.
use borrow.Author.Rules.{rules}
use Rattle.index_image.specs.Image.{header_of}
use Rattle.index_image.proofs.Formed.{first_eight}
use Rattle.index_image.proofs.header.header_of.Goals as goal

pub returns : goal.returns
unfolding header_of
returns c =
    rw (c.copy_from_slice.ensures.after, first_eight c.args.numbers (search rules))
