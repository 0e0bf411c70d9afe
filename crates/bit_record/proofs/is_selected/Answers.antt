-- The definition reads the same bit of the same word; in each arm the polarity is what the match tells.
use Rattle.select_in_word.specs.Bit.{bit}
use Rattle.bit_record.specs.Record.{bit_at}
use Rattle.bit_record.proofs.is_selected.Goals as goal

pub returns-in-Ones : goal.returns-in-Ones
unfolding bit_at bit
returns-in-Ones c =
    rw c.in-Ones.is

pub returns-in-Zeros : goal.returns-in-Zeros
unfolding bit_at bit
returns-in-Zeros c =
    rw c.in-Zeros.is
