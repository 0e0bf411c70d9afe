-- What an admitted record selects.
use Rattle.std.specs.Prelude.{Bool, List, ◌≡◌, ℕ}
use Rattle.bit_record.specs.Record.{selected}
use Rattle.bit_record.specs.declared.Polarity.{Polarity}
use Rattle.bit_record.specs.declared.record.Record.{Record}

abbrev pub selects : Record → ℕ → Bool
selects r = selected r.polarity r.words.now r.len

-- r is the record of these
pub record RecordOf (ws : List ℕ) (n : ℕ) (pol : Polarity) (r : Record) : Type 0 where
  pub words : r.words.now ≡ ws
  pub len : r.len ≡ n
  pub polarity : r.polarity ≡ pol
