-- Head, spacing, number and shape are those of the rank's entry (`Headed`, `Divided`, `Numbered`); for each return a law
-- `reading-..` says that it is what is defined.
use native.Mathlib.Omega.{arith}
use Rattle.read_inventory.proofs.Decoding.{Headed, Divided, Numbered, entry_lent, quantum_low, reading_small, reading_none, reading_past, reading_is}
use Rattle.read_inventory.proofs.Passing.{Readable, refused_so}
use Rattle.read_inventory.proofs.index.Cells.decode.Goals.{After-low_bits-subrank, After-open-entry, After-shape_of-base, Start}
use Rattle.read_inventory.proofs.index.Cells.decode.Goals as goal

module _ (c : Start) where
  read :
      let a = c.args in
      Readable a.self.summary a.self.inventory.now a.self.spill.now a.rank
  read = record { legible = c.args.self.legible; below = c.requires }

module _ (c : After-open-entry) where
  headed :
      let a = c.args in
      Headed a.self.summary a.self.inventory.now a.self.spill.now a.rank c.open-entry.result.head
  headed = record { readable = read (goal.at.After-open-entry c).Start; read = c.open-entry.ensures.1 }

module _ (c : After-low_bits-subrank) where
  divided :
      let a = c.args in
      Divided a.self.summary a.self.inventory.now a.self.spill.now a.rank c.open-entry.result.head
      c.in_ok-log2_quantum.log2_quantum c.low_bits-subrank.result
  divided =
      record {
        head = headed (goal.at.After-low_bits-subrank c).After-open-entry;
        spacing = rw c.open-entry.ensures.0 at c.in_ok-log2_quantum.ensures;
        subrank = c.low_bits-subrank.ensures;
      }

module _ (c : After-shape_of-base) where
  numbered :
      let a = c.args in
      Numbered a.self.summary a.self.inventory.now a.self.spill.now a.rank c.open-entry.result.head
      c.in_ok-log2_quantum.log2_quantum c.low_bits-subrank.result c.in_ok-number.number
      c.shape_of-base.result
  numbered =
      record {
        divided = divided (goal.at.After-shape_of-base c).After-low_bits-subrank;
        number = rw c.open-entry.ensures.0 at c.in_ok-number.ensures;
        shape = c.shape_of-base.ensures;
      }

pub open-entry-requires : goal.open-entry-requires
open-entry-requires c =
    entry_lent _ _ _ c.args.rank (read (goal.at.open-entry-requires c).Start)

pub returns-in_err-log2_quantum : goal.returns-in_err-log2_quantum
returns-in_err-log2_quantum c =
    refused_so _ _ c.from_residual.ensures _
    (reading_small (headed (goal.at.returns-in_err-log2_quantum c).After-open-entry) _
    (rw c.open-entry.ensures.0 at c.in_err-log2_quantum.ensures))

pub overflow_shr-subrank : goal.overflow_shr-subrank
overflow_shr-subrank c =
    quantum_low (divided c)

pub returns-in_err-number : goal.returns-in_err-number
returns-in_err-number c =
    refused_so _ _ c.from_residual-in_err-number.ensures _
    (reading_none (divided (goal.at.returns-in_err-number c).After-low_bits-subrank) _
    (rw c.open-entry.ensures.0 at c.in_err-number.ensures))

pub returns-then-saturating_sub-number : goal.returns-then-saturating_sub-number
returns-then-saturating_sub-number c =
    reading_past (numbered (goal.at.returns-then-saturating_sub-number c).After-shape_of-base) (omega (arith, c.saturating_sub.ensures, c.if-saturating_sub-number.true))

pub low_bits-residual-requires : goal.low_bits-residual-requires
low_bits-residual-requires c =
    quantum_low (divided (goal.at.low_bits-residual-requires c).After-low_bits-subrank)

pub returns : goal.returns
returns c =
    reading_is (numbered (goal.at.returns c).After-shape_of-base) (omega (arith, c.saturating_sub.ensures, c.if-saturating_sub-number.false)) c.low_bits-residual.result
    c.low_bits-residual.ensures
