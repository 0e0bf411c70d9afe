-- The bits of the ranks below N: they are selected, they rise, and they lie below len.
use mathlib.Core.List.{List}
use Prim.Native.Nat.{ℕ, ◌<◌}
use Rattle.rank_sel.proofs.Select.{select_lt, select_below}
use Rattle.bit_record.specs.Record.{selected, num_selected, bit_of}
use Rattle.bit_record.specs.declared.Polarity.{Polarity}

module _ (ws : List ℕ) (len : ℕ) (pol : Polarity) where
  pub bits_rise : (r s : ℕ) → r < s → s < num_selected pol ws len → bit_of ws len pol r < bit_of ws len pol s
  unfolding num_selected
  bits_rise r s l h = select_lt (selected pol ws len) len r s l h

  pub bit_below : (r : ℕ) → r < num_selected pol ws len → bit_of ws len pol r < len
  unfolding num_selected
  bit_below r h = select_below (selected pol ws len) len r h
