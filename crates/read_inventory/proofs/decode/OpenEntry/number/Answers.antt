-- The spot puts a lane within its cell and an own cell within the inventory (`Spotted`), the test a spilled cell within the
-- spill. For each return a law `number-..` says that it is what is defined.
use native.Mathlib.Omega.{arith}
use borrow.Author.Rules.{rules}
use Rattle.read_inventory.proofs.Reading.{next_in, Spotted, own_in, number_start, number_own, number_missing, number_over}
use Rattle.read_inventory.proofs.decode.OpenEntry.number.Goals.{After-place_of-spot}
use Rattle.read_inventory.proofs.decode.OpenEntry.number.Goals as goal

module _ (c : After-place_of-spot) where
  spotted :
      let a = c.args in
      Spotted a.self.cells.summary a.self.cells.inventory.now a.self.head.entry a.i a.self.head c.shape_of-shape.result c.place_of-spot.result
  spotted =
      record {
        head = c.args.self.read.read;
        shape = c.shape_of-shape.ensures;
        place = c.place_of-spot.ensures;
        lent = c.args.self.read.lent;
      }

pub overflow_add-first : goal.overflow_add-first
overflow_add-first c =
    let l = next_in _ _ _ c.args.self.read in search rules

pub overflow_add-at : goal.overflow_add-at
overflow_add-at c =
    record { fits = omega (arith, own_in (spotted (goal.at.overflow_add-at c).After-place_of-spot) _ _ c.in-Own.is) }

pub overflow_add-at-in-Own : goal.overflow_add-at-in-Own
overflow_add-at-in-Own c =
    record { fits = omega (arith, own_in (spotted (goal.at.overflow_add-at-in-Own c).After-place_of-spot) _ _ c.in-Own.is) }

pub offset_bounds-cells-at : goal.offset_bounds-cells-at
offset_bounds-cells-at c =
    record { fits = omega (arith, own_in (spotted (goal.at.offset_bounds-cells-at c).After-place_of-spot) _ _ c.in-Own.is) }

pub offset_bounds-cells-first : goal.offset_bounds-cells-first
offset_bounds-cells-first c =
    let l = next_in _ _ _ c.args.self.read in search rules

pub overflow_add-from : goal.overflow_add-from
overflow_add-from c =
    record { fits = omega (arith, c.saturating_sub.ensures, c.if-saturating_sub-n.false, c.args.self.cells.legible.held.over) }

pub offset_bounds-cells-from : goal.offset_bounds-cells-from
offset_bounds-cells-from c =
    record { fits = omega (arith, c.saturating_sub.ensures, c.if-saturating_sub-n.false, c.args.self.cells.legible.held.over) }

pub returns-then-saturating_sub-n : goal.returns-then-saturating_sub-n
returns-then-saturating_sub-n c =
    number_missing (spotted (goal.at.returns-then-saturating_sub-n c).After-place_of-spot) c.args.self.cells.spill.now _ _ c.in-Over.is
    (omega (arith, c.saturating_sub.ensures, c.if-saturating_sub-n.true))

pub returns-in-Start : goal.returns-in-Start
returns-in-Start c =
    number_start (spotted (goal.at.returns-in-Start c).After-place_of-spot) c.args.self.cells.spill.now c.in-Start.is

pub returns-in-Own : goal.returns-in-Own
returns-in-Own c =
    number_own (spotted (goal.at.returns-in-Own c).After-place_of-spot) c.args.self.cells.spill.now _ _ c.lane_of-value.result c.in-Own.is
    c.lane_of-value.ensures

pub returns-else-saturating_sub-n : goal.returns-else-saturating_sub-n
returns-else-saturating_sub-n c =
    number_over (spotted (goal.at.returns-else-saturating_sub-n c).After-place_of-spot) c.args.self.cells.spill.now _ _ c.lane_of-value-in-Over.result c.in-Over.is
    (omega (arith, c.saturating_sub.ensures, c.if-saturating_sub-n.false)) c.lane_of-value-in-Over.ensures
