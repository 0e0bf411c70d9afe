use mathlib.Core.Path.{refl, sym, ◌∙◌}
use Prim.Native.Nat.{◌+◌, ◌≤◌, ◌<◌}
use native.Mathlib.Omega.{arith}
use lib.ListN.{length}
use Rattle.inventory.specs.Index.{entries_of, stride}
use Rattle.inventory.proofs.Ranks.{entry_below}
use Rattle.build_inventory.proofs.Comparing.{agree_none, agree_end, agree_last, agree_cells, agree_spill, agree_more, agree_stop}
use Rattle.build_inventory.proofs.Parts.{part_fits}
use Rattle.build_inventory.proofs.planned.Planned.same_index.Goals.{After-entry_at-x, After-loop-e, In-loop-e}
use Rattle.build_inventory.proofs.planned.Planned.same_index.Goals as goal

-- in a turn: e is an entry's number
below : (c : In-loop-e) → c.loop-e.e < entries_of c.args.self.now.plan
below c = omega (arith, c.entry_count-count.ensures, c.loop-e-test.true)

-- its cells, and those that it spills, are there
module _ (c : After-entry_at-x) where
  room : stride c.args.self.now.plan + c.loop-e.at ≤ length c.args.inventory.now
  room =
      let r = c.requires in
      agree_cells r.cells r.spills c.loop-e.invariant (below (goal.at.After-entry_at-x c).In-loop-e) c.entry_at-x.ensures.1

  spill_room : c.entry_at-x.result.entry.spilled + c.loop-e.spilled ≤ length c.args.spill.now
  spill_room =
      let r = c.requires in
      agree_spill r.cells r.spills c.loop-e.invariant (below (goal.at.After-entry_at-x c).In-loop-e) c.entry_at-x.ensures.1

-- after the last: the closing cell is there
end : (c : After-loop-e) → c.loop-e.at < length c.args.inventory.now
end c =
    let r = c.requires in
    agree_end r.cells r.spills c.loop-e.invariant

pub loop-e-init : goal.loop-e-init
loop-e-init c =
    let r = c.requires in
    agree_none r.cells r.spills c.first_start-start.ensures

pub entry_at-x-requires : goal.entry_at-x-requires
entry_at-x-requires c =
    (entry_below c.args.self.now.plan c.loop-e.e (below c), c.loop-e.invariant.reached.begins)

pub offset_bounds-inventory-at : goal.offset_bounds-inventory-at
offset_bounds-inventory-at c =
    omega (arith, room (goal.at.offset_bounds-inventory-at c).After-entry_at-x)

pub slice_bounds-same_entry-count : goal.slice_bounds-same_entry-count
slice_bounds-same_entry-count c =
    omega (arith, room (goal.at.slice_bounds-same_entry-count c).After-entry_at-x)

pub slice_bounds-same_entry-start : goal.slice_bounds-same_entry-start
slice_bounds-same_entry-start c =
    omega (arith, room (goal.at.slice_bounds-same_entry-start c).After-entry_at-x)

pub offset_bounds-spill-spilled : goal.offset_bounds-spill-spilled
offset_bounds-spill-spilled c =
    omega (arith, spill_room (goal.at.offset_bounds-spill-spilled c).After-entry_at-x)

pub slice_bounds-same_entry-count-in-loop-e : goal.slice_bounds-same_entry-count-in-loop-e
slice_bounds-same_entry-count-in-loop-e c =
    omega (arith, spill_room (goal.at.slice_bounds-same_entry-count-in-loop-e c).After-entry_at-x)

pub slice_bounds-same_entry-start-in-loop-e : goal.slice_bounds-same_entry-start-in-loop-e
slice_bounds-same_entry-start-in-loop-e c =
    omega (arith, spill_room (goal.at.slice_bounds-same_entry-start-in-loop-e c).After-entry_at-x)

pub same_entry-requires : goal.same_entry-requires
same_entry-requires c =
    let at_entry_at_x = (goal.at.same_entry-requires c).After-entry_at-x in
    let l = c.loop-e in (
      rw c.entry_at-x.ensures.0 (part_fits c.args.inventory.now l.at (stride c.args.self.now.plan) (room at_entry_at_x)),
      part_fits c.args.spill.now l.spilled c.entry_at-x.result.entry.spilled (spill_room at_entry_at_x),
    )

pub returns-then-not-same_entry : goal.returns-then-not-same_entry
returns-then-not-same_entry c =
    let r = c.requires in
    let e = c.entry_at-x.ensures in
    agree_stop r.cells r.spills c.loop-e.invariant (below (goal.at.returns-then-not-same_entry c).In-loop-e) e.1 refl refl
    (sym (rw e.0 at c.same_entry.ensures) ∙ c.if-not-same_entry.true)

pub overflow_add-at : goal.overflow_add-at
overflow_add-at c =
    omega (arith, room (goal.at.overflow_add-at c).After-entry_at-x, c.entry_len-cells.ensures, c.well_formed.1)

pub overflow_add-spilled : goal.overflow_add-spilled
overflow_add-spilled c =
    omega (arith, spill_room (goal.at.overflow_add-spilled c).After-entry_at-x, c.well_formed.1.1)

pub loop-e-preserved : goal.loop-e-preserved
loop-e-preserved c =
    let r = c.requires in
    let e = c.entry_at-x.ensures in
    agree_more r.cells r.spills c.loop-e.invariant (below (goal.at.loop-e-preserved c).In-loop-e) e.1 refl refl
    c.entry_len-cells.ensures (sym (rw e.0 at c.same_entry.ensures) ∙ c.if-not-same_entry.false)

pub offset_bounds-inventory-at-2 : goal.offset_bounds-inventory-at-2
offset_bounds-inventory-at-2 c =
    omega (arith, end c)

pub bounds-inventory-at : goal.bounds-inventory-at
bounds-inventory-at c =
    end (goal.at.bounds-inventory-at c).After-loop-e

pub returns : goal.returns
returns c =
    let r = c.requires in
    let v = c.loop-e.invariant in
    agree_last r.cells r.spills v (omega (arith, c.entry_count-count.ensures, v.reached.within))
