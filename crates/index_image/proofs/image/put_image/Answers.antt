-- Three writes, each just behind the one before it, are one put of all (`put_image`).
use mathlib.Core.Path.{refl}
use borrow.Author.Rules.{rules}
use Rattle.index_image.proofs.RoundTrip.{put_image}
use Rattle.index_image.proofs.image.put_image.Goals as goal

pub returns : goal.returns
returns c =
    let a = c.args in
    rw (c.write_words-3.ensures, c.write_words-2.ensures, c.write_words.ensures)
    (put_image a.header a.inventory.now a.spill.now a.bytes.now _ _ (search rules) refl refl c.requires)
