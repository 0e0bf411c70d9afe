-- What the three calls return is the word masked as in `holds_word`, which says that it holds the selected positions.
use native.Mathlib.Omega.{arith}
use Rattle.bit_record.proofs.Selected.{holds_word}
use Rattle.bit_record.proofs.selected_word.Goals as goal

pub returns : goal.returns
returns c =
    let a = c.args in
    rw (c.mask_tail_word.ensures, c.tail_mask.ensures, c.complement_zeros-word.ensures)
    (holds_word a.polarity a.words.now a.len a.i (omega (arith, c.type_inv.words a.i)) c.requires.1)
