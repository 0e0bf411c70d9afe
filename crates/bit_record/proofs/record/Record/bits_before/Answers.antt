-- The low bits of the word hold what lies before p in it (`before_from`).
use Rattle.bit_record.specs.Selects.{selects}
use Rattle.bit_record.proofs.Seek.{before_from}
use Rattle.bit_record.proofs.record.Record.bits_before.Goals as goal

pub returns : goal.returns
returns c =
    let a = c.args in
    rw c.low_bits.ensures (before_from (selects a.self.now) a.p c.selected_word-word.result c.selected_word-word.ensures)
