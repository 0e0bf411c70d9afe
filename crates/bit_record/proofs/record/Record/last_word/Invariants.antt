-- The words passed have none, so that the rank before them is still that at the end (`word_empty`); the first that has one has the
-- last (`word_last`).
use mathlib.Core.Path.{◌≡◌}
use Prim.Native.Nat.{◌*◌}
use Rattle.rank_sel.specs.Rank.{rank}
use Rattle.bit_record.specs.Selects.{selects}
use Rattle.bit_record.proofs.record.Record.last_word.Given as goal

abbrev pub invariant-loop-i : goal.invariant-loop-i
invariant-loop-i l = rank (selects l.self) (64 * l.i) ≡ rank (selects l.self) (64 * l.n)
