-- A U16 entry's numbers stand in its own cells (`quarter_in`), and its mark is the decoded one (`quarter_past`, `quarter_is`).
-- Any other entry is decoded, and `decoded_marks` says that this is its mark, or that it is refused, by 10.
use mathlib.Core.Path.{sym, ◌∙◌}
use native.Mathlib.Omega.{arith}
use borrow.Author.Rules.{rules}
use Rattle.rank_sel.specs.Outcome.{refused}
use Rattle.read_inventory.specs.Read.{entry_of_rank}
use Rattle.read_inventory.specs.Steps.{EntryLent}
use Rattle.read_inventory.proofs.Decoding.{Quartered, entry_lent, quarter_in, quarter_fits, quarter_past, quarter_is, decoded_marks}
use Rattle.read_inventory.proofs.Passing.{Readable}
use Rattle.read_inventory.proofs.Ten.{ten_err, ten_decoded}
use Rattle.read_inventory.proofs.index.Cells.mark_of.Goals.{After-low_bits-subrank, Start}
use Rattle.read_inventory.proofs.index.Cells.mark_of.Goals as goal

module _ (c : Start) where
  read :
      let a = c.args in
      Readable a.self.now.summary a.self.now.inventory.now a.self.now.spill.now a.rank
  read = record { legible = c.args.self.now.legible; below = c.requires }

  lent : EntryLent c.args.self.now.summary c.args.self.now.inventory.now (entry_of_rank c.args.self.now.summary c.args.rank)
  lent = entry_lent _ _ _ c.args.rank read

module _ (c : After-low_bits-subrank) where
  quartered :
      let a = c.args in
      Quartered a.self.now.summary a.self.now.inventory.now a.self.now.spill.now a.rank c.first_cell-cell.result c.low_bits-subrank.result
  quartered =
      record {
        readable = read (goal.at.After-low_bits-subrank c).Start;
        cell = c.first_cell-cell.ensures;
        kind = sym c.in-U16.is ∙ c.kind_of.ensures;
        subrank = c.low_bits-subrank.ensures;
      }

pub first_cell-cell-requires : goal.first_cell-cell-requires
first_cell-cell-requires c =
    let l = lent (goal.at.first_cell-cell-requires c).Start in search rules

pub offset_bounds-self-cell : goal.offset_bounds-self-cell
offset_bounds-self-cell c =
    let l = lent (goal.at.offset_bounds-self-cell c).Start in search rules

pub bounds-self-cell : goal.bounds-self-cell
bounds-self-cell c =
    let l = lent (goal.at.bounds-self-cell c).Start in
    search rules

pub returns-in_default-decode : goal.returns-in_default-decode
returns-in_default-decode c =
    decoded_marks _ _ _ _ (refused 10) (ten_err (ten_decoded _ _ _ _) _ _ c.in_default-decode.is c.decode.ensures)

pub returns-in_default : goal.returns-in_default
returns-in_default c =
    rw c.mark_by.ensures (decoded_marks _ _ _ _ _ c.in-Ok.ensures)

pub overflow_add-cell : goal.overflow_add-cell
overflow_add-cell c =
    record { fits = omega (arith, quarter_in (quartered (goal.at.overflow_add-cell c).After-low_bits-subrank)) }

pub quarter_at-requires : goal.quarter_at-requires
quarter_at-requires c =
    quarter_in (quartered (goal.at.quarter_at-requires c).After-low_bits-subrank)

pub overflow_add-mark : goal.overflow_add-mark
overflow_add-mark c =
    record { fits = quarter_fits (quartered (goal.at.overflow_add-mark c).After-low_bits-subrank) c.quarter_at.result c.quarter_at.ensures }

pub returns-then-plan-mark : goal.returns-then-plan-mark
returns-then-plan-mark c =
    quarter_past (quartered (goal.at.returns-then-plan-mark c).After-low_bits-subrank) c.quarter_at.result c.quarter_at.ensures c.if-plan-mark.true

pub returns : goal.returns
returns c =
    quarter_is (quartered (goal.at.returns c).After-low_bits-subrank) c.quarter_at.result c.quarter_at.ensures c.if-plan-mark.false
    c.low_bits.result c.low_bits.ensures
