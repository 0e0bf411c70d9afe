-- The index of a record: the words come in by what they select alone.
use Rattle.std.specs.Prelude.{List, ℕ, max}
use Rattle.std.proofs.Math.Option.{Option, get_or}
use Rattle.bit_record.specs.Record.{bit_of}
use Rattle.spacing.specs.declared.Parameters.{Parameters}
use Rattle.inventory.specs.Index.{entries_of, spill_start}

-- the bit of rank r in the record that the plan is of
abbrev pub pos_in : List ℕ → Parameters → ℕ → ℕ
pos_in ws p = bit_of ws p.len p.polarity

-- past the last selected bit, the end of the last span
abbrev pub or_end : Parameters → Option ℕ → ℕ
or_end p place = get_or place (max 1 p.len)

-- how many cells the index spills
abbrev pub spill_len_of : List ℕ → Parameters → ℕ
spill_len_of ws p = spill_start (pos_in ws p) p (entries_of p)
