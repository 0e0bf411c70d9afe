-- The blocks passed have none, so that the rank at the first word is still that behind them.
use mathlib.Core.Path.{◌≡◌}
use Prim.Native.Nat.{◌+◌, ◌*◌}
use Rattle.rank_sel.specs.Rank.{rank}
use Rattle.bit_record.specs.Selects.{selects}
use Rattle.bit_record.proofs.record.Record.next_past.Given as goal

abbrev pub invariant-loop-block : goal.invariant-loop-block
invariant-loop-block l = rank (selects l.self) (64 * l.first) ≡ rank (selects l.self) (64 * (l.first + 8 * l.block))
