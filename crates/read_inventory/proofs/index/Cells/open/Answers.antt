-- The first cell is lent, as is asked, and what the three calls return makes the head (`head_read`).
use Rattle.read_inventory.proofs.Reading.{head_read}
use Rattle.read_inventory.proofs.index.Cells.open.Goals as goal

pub invariant_of-result : goal.invariant_of-result
invariant_of-result c =
    let a = c.args in
    record {
      read = record {
        lent = c.requires;
        read = head_read a.self.summary a.self.inventory.now a.entry _ _ _ c.first_cell-cell.ensures
            c.kind_of-kind.ensures c.start_of-start.ensures;
      };
    }
