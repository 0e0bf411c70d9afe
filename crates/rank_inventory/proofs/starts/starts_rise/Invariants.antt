-- The starts so far keep the rule, and `least` is the least that the next may be (`Passed`).
use Rattle.read_inventory.specs.Read.{start_at}
use Rattle.rank_inventory.proofs.Rising.{Passed}
use Rattle.rank_inventory.proofs.starts.starts_rise.Given as goal

abbrev pub invariant-loop-entry : goal.invariant-loop-entry
invariant-loop-entry l = Passed (start_at l.cells.summary l.cells.inventory.now) l.cells.summary.plan.len l.entry l.least
