-- The rank at word i and what is left to pass make the rank at the first word and k: a word finds the position or passes its ones.
use mathlib.Core.Path.{◌≡◌}
use Prim.Native.Nat.{◌+◌, ◌*◌}
use Rattle.rank_sel.specs.Rank.{rank}
use Rattle.bit_record.specs.Selects.{selects}
use Rattle.bit_record.proofs.record.Record.seek_words.Given as goal

abbrev pub invariant-loop-i : goal.invariant-loop-i
invariant-loop-i l = rank (selects l.self) (64 * l.i) + l.left ≡ rank (selects l.self) (64 * l.first) + l.k
