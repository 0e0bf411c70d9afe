-- While the cells of the entries before e agree (`Agreeing`), the loop goes on; an entry that differs, or the closing cell, decides.
use Rattle.build_inventory.specs.Placed.{pos_of}
use Rattle.build_inventory.proofs.Comparing.{Agreeing}
use Rattle.build_inventory.proofs.planned.Planned.same_index.Given as goal

abbrev pub invariant-loop-e : goal.invariant-loop-e
invariant-loop-e l = Agreeing (pos_of l.self) l.self.plan l.inventory l.spill l.e l.at l.spilled l.start
