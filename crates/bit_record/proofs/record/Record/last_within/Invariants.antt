-- The blocks passed have none, so that the rank before them is still that at the end.
use mathlib.Core.Path.{◌≡◌}
use Prim.Native.Nat.{◌-◌, ◌*◌}
use Rattle.rank_sel.specs.Rank.{rank}
use Rattle.bit_record.specs.Selects.{selects}
use Rattle.bit_record.proofs.record.Record.last_within.Given as goal

abbrev pub invariant-loop-block : goal.invariant-loop-block
invariant-loop-block l = rank (selects l.self) (64 * (l.n - 8 * l.block)) ≡ rank (selects l.self) (64 * l.n)
