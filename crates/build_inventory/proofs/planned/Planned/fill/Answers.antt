use Prim.Native.Nat.{◌+◌, ◌≤◌, ◌<◌}
use native.Mathlib.Omega.{arith}
use lib.ListN.{length}
use Rattle.inventory.specs.Index.{entries_of, stride}
use Rattle.inventory.proofs.Ranks.{entry_below}
use Rattle.build_inventory.proofs.Fill.{stand_none, stand_end, stand_last, stand_cells, stand_spill, stand_more}
use Rattle.build_inventory.proofs.Parts.{part_fits}
use Rattle.build_inventory.proofs.planned.Planned.fill.Goals.{After-entry_at-x, In-loop-e}
use Rattle.build_inventory.proofs.planned.Planned.fill.Goals as goal

-- in a turn: e is an entry's number
below : (c : In-loop-e) → c.loop-e.e < entries_of c.args.self.now.plan
below c = omega (arith, c.entry_count-entries.ensures, c.loop-e-test.true)

-- its cells, and those that it spills, have room
module _ (c : After-entry_at-x) where
  room : stride c.args.self.now.plan + c.loop-e.at ≤ length c.loop-e.inventory
  room =
      let r = c.requires in
      stand_cells r.cells r.spills c.loop-e.invariant (below (goal.at.After-entry_at-x c).In-loop-e) c.entry_at-x.ensures.1

  spill_room : c.entry_at-x.result.entry.spilled + c.loop-e.spilled ≤ length c.loop-e.spill
  spill_room =
      let r = c.requires in
      stand_spill r.cells r.spills c.loop-e.invariant (below (goal.at.After-entry_at-x c).In-loop-e) c.entry_at-x.ensures.1

pub loop-e-init : goal.loop-e-init
loop-e-init c =
    let r = c.requires in
    stand_none r.cells r.spills c.first_start-start.ensures

pub entry_at-x-requires : goal.entry_at-x-requires
entry_at-x-requires c =
    (entry_below c.args.self.now.plan c.loop-e.e (below c), c.loop-e.invariant.reached.begins)

pub offset_bounds-inventory-at : goal.offset_bounds-inventory-at
offset_bounds-inventory-at c =
    omega (arith, room (goal.at.offset_bounds-inventory-at c).After-entry_at-x, c.loop-e.invariant.long)

pub slice_bounds-write_entry-count : goal.slice_bounds-write_entry-count
slice_bounds-write_entry-count c =
    omega (arith, room (goal.at.slice_bounds-write_entry-count c).After-entry_at-x)

pub slice_bounds-write_entry-start : goal.slice_bounds-write_entry-start
slice_bounds-write_entry-start c =
    omega (arith, room (goal.at.slice_bounds-write_entry-start c).After-entry_at-x)

pub offset_bounds-spill-spilled : goal.offset_bounds-spill-spilled
offset_bounds-spill-spilled c =
    omega (arith, spill_room (goal.at.offset_bounds-spill-spilled c).After-entry_at-x, c.loop-e.invariant.spill_long, c.well_formed.1.1)

pub slice_bounds-write_entry-count-in-loop-e : goal.slice_bounds-write_entry-count-in-loop-e
slice_bounds-write_entry-count-in-loop-e c =
    omega (arith, spill_room (goal.at.slice_bounds-write_entry-count-in-loop-e c).After-entry_at-x)

pub slice_bounds-write_entry-start-in-loop-e : goal.slice_bounds-write_entry-start-in-loop-e
slice_bounds-write_entry-start-in-loop-e c =
    omega (arith, spill_room (goal.at.slice_bounds-write_entry-start-in-loop-e c).After-entry_at-x)

pub write_entry-requires : goal.write_entry-requires
write_entry-requires c =
    let at_entry_at_x = (goal.at.write_entry-requires c).After-entry_at-x in
    let l = c.loop-e in (
      rw c.entry_at-x.ensures.0 (part_fits l.inventory l.at (stride c.args.self.now.plan) (room at_entry_at_x)),
      part_fits l.spill l.spilled c.entry_at-x.result.entry.spilled (spill_room at_entry_at_x),
    )

pub overflow_add-at : goal.overflow_add-at
overflow_add-at c =
    omega (arith, room (goal.at.overflow_add-at c).After-entry_at-x, c.entry_len-cells.ensures, c.loop-e.invariant.long, c.well_formed.1)

pub overflow_add-spilled : goal.overflow_add-spilled
overflow_add-spilled c =
    omega (arith, spill_room (goal.at.overflow_add-spilled c).After-entry_at-x, c.loop-e.invariant.spill_long, c.well_formed.1.1)

pub loop-e-preserved : goal.loop-e-preserved
loop-e-preserved c =
    let r = c.requires in
    let w = c.write_entry in
    let e = c.entry_at-x.ensures in
    stand_more r.cells r.spills c.loop-e.invariant (below (goal.at.loop-e-preserved c).In-loop-e) e.1
    c.entry_len-cells.ensures (rw e.0 at w.ensures) w.auto.cells w.auto.spill

pub offset_bounds-inventory-at-2 : goal.offset_bounds-inventory-at-2
offset_bounds-inventory-at-2 c =
    let r = c.requires in
    omega (arith, stand_end r.cells r.spills c.loop-e.invariant, c.loop-e.invariant.long, c.well_formed.1)

pub bounds-inventory-at : goal.bounds-inventory-at
bounds-inventory-at c =
    let r = c.requires in
    stand_end r.cells r.spills c.loop-e.invariant

pub returns : goal.returns
returns c =
    let r = c.requires in
    let v = c.loop-e.invariant in
    rw c.write_cell.ensures
    (stand_last r.cells r.spills v (omega (arith, c.entry_count-entries.ensures, v.reached.within)))
