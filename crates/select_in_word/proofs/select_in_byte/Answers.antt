-- Byte and rank make a slot of the table, whose entries are the rule's by computation (`table_at`); none is over 8.
use native.Mathlib.Omega.{arith}
use Rattle.rank_sel.specs.Seek.{seek}
use Rattle.select_in_word.specs.Bit.{bit}
use Rattle.select_in_word.specs.Select.{select_in_byte}
use Rattle.select_in_word.proofs.Table.{list, entry, table_at}
use Rattle.select_in_word.proofs.select_in_byte.Goals as goal

pub returns : goal.returns
unfolding list entry select_in_byte seek bit
returns c =
    table_at c.args.byte c.args.rank (omega arith) (omega arith)
