-- After e turns the sum is that of the entries before e; it is small, since these spill at most one cell for each of their ranks.
use Rattle.build_inventory.specs.Placed.{pos_of}
use Rattle.build_inventory.proofs.Turns.{Reached}
use Rattle.build_inventory.proofs.planned.Planned.spill_count.Given as goal

abbrev pub invariant-loop-e : goal.invariant-loop-e
invariant-loop-e l = Reached (pos_of l.self) l.self.plan l.e l.spilled l.start
