-- After e turns the cells of the entries before e stand in front of what was lent (`Standing`); the closing cell goes behind the last.
use Rattle.build_inventory.specs.Placed.{pos_of}
use Rattle.build_inventory.proofs.Fill.{Standing}
use Rattle.build_inventory.proofs.planned.Planned.fill.Given as goal

abbrev pub invariant-loop-e : goal.invariant-loop-e
invariant-loop-e l = Standing (pos_of l.self) l.self.plan l.initial.inventory l.inventory l.initial.spill l.spill l.e l.at l.spilled l.start
