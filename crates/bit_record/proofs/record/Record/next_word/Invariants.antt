-- The words passed have none, so that the rank at the first one is still that behind them (`word_empty`); the first that has one has the
-- next.
use mathlib.Core.Path.{◌≡◌}
use Prim.Native.Nat.{◌*◌}
use Rattle.rank_sel.specs.Rank.{rank}
use Rattle.bit_record.specs.Selects.{selects}
use Rattle.bit_record.proofs.record.Record.next_word.Given as goal

abbrev pub invariant-loop-i : goal.invariant-loop-i
invariant-loop-i l = rank (selects l.self) (64 * l.first) ≡ rank (selects l.self) (64 * l.i)
