-- The rank at a block's start and what remains make the rank at `from` and k, so that a seek from there finds the same (`finds_on`).
use mathlib.Core.Path.{◌≡◌}
use Prim.Native.Nat.{◌+◌, ◌*◌}
use Rattle.rank_sel.specs.Rank.{rank}
use Rattle.bit_record.specs.Selects.{selects}
use Rattle.bit_record.proofs.record.Record.seek_far.Given as goal

abbrev pub invariant-loop-block : goal.invariant-loop-block
invariant-loop-block l =
    rank (selects l.self) (64 * (l.first + 8 * l.block)) + l.remaining
    ≡ rank (selects l.self) l.from + l.k
