-- The entry's ranks give its marks, and these the cells that it spills; all stay within N.
use Prim.Native.Nat.{◌^◌, ◌<◌}
use native.Mathlib.Omega.{arith}
use lib.Pow.{pow_pos}
use Rattle.rank_sel.proofs.Ceil.{ceil_le}
use Rattle.inventory.proofs.Ranks.{ranks_few}
use Rattle.read_inventory.proofs.jump.spilled_at.Goals.{After-entry_ranks-ranks}
use Rattle.read_inventory.proofs.jump.spilled_at.Goals as goal

module _ (c : After-entry_ranks-ranks) where
  few : c.entry_ranks-ranks.result < 2 ^ 62
  few = omega (arith, c.entry_ranks-ranks.ensures, ranks_few c.args.plan c.args.decoded.head.entry, c.requires.few)

pub ceil_shift-requires : goal.ceil_shift-requires
ceil_shift-requires c =
    (few (goal.at.ceil_shift-requires c).After-entry_ranks-ranks, c.requires.small_q)

pub spilled_by-requires : goal.spilled_by-requires
spilled_by-requires c =
    let q = c.args.decoded.log2_quantum in (
      omega (arith, c.ceil_shift.ensures, few (goal.at.spilled_by-requires c).After-entry_ranks-ranks, ceil_le c.entry_ranks-ranks.result (2 ^ q) (pow_pos q)),
      c.requires.small_m,
    )
