-- Record, summary and cells passed their tests: the cells are legible, and the index holds its record.
use Rattle.rank_sel.proofs.Outcome.{passed_none}
use Rattle.bit_record.specs.Record.{of_record_from}
use Rattle.inventory.specs.Lawful.{of_summary, of_cells}
use Rattle.read_inventory.proofs.Passing.{IndexHeld, index_by}
use Rattle.read_inventory.proofs.tests.test_index.Goals.{In_ok-test_cells}
use Rattle.read_inventory.proofs.tests.test_index.Goals as goal

module _ (c : In_ok-test_cells) where
  held : let a = c.args in IndexHeld a.words.now a.summary a.inventory.now a.spill.now
  held =
      let a = c.args in
      index_by a.words.now a.summary a.inventory.now a.spill.now
      (passed_none (of_record_from a.words.now a.summary.plan.len a.summary.origin) c.in_ok-test_record.ensures)
      (passed_none (of_summary a.summary) c.in_ok-test_summary.ensures)
      (passed_none (of_cells a.summary a.inventory.now a.spill.now) c.in_ok-test_cells.ensures)

pub invariant_of-cells : goal.invariant_of-cells
invariant_of-cells c =
    record { legible = (held (goal.at.invariant_of-cells c).In_ok-test_cells).legible }

pub invariant_of-result : goal.invariant_of-result
invariant_of-result c =
    record { from = (held (goal.at.invariant_of-result c).In_ok-test_cells).from }
