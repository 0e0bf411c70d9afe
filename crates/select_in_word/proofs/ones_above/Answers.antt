-- What lies above a place is the word shifted past it (`rest_above`).
use mathlib.Core.Path.{◌∙◌}
use Rattle.select_in_word.proofs.Select.{rest_above}
use Rattle.select_in_word.proofs.ones_above.Goals as goal

pub returns : goal.returns
returns c =
    let a = c.args in
    c.count_ones.ensures.exact ∙ rest_above a.word a.position c.ranges.word.fits c.requires
