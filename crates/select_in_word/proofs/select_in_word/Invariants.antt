-- The rank at byte i and what is left to pass make the rank asked for: a byte with more ones has the position by the table, any
-- other is passed. Past the last the rank is too large.
use mathlib.Core.Path.{◌≡◌}
use Prim.Native.Nat.{◌+◌, ◌*◌}
use Rattle.rank_sel.specs.Rank.{rank as ranks}
use Rattle.select_in_word.specs.Bit.{bit}
use Rattle.select_in_word.proofs.select_in_word.Given as goal

abbrev pub invariant-loop-i : goal.invariant-loop-i
invariant-loop-i l = ranks (bit l.word) (8 * l.i) + l.left ≡ l.rank
