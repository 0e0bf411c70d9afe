use mathlib.Core.Path.{refl, ◌∙◌}
use native.Mathlib.Nat.{zero-mul}
use native.Mathlib.Omega.{arith}
use Rattle.build_inventory.specs.Placed.{pos_at}
use Rattle.build_inventory.proofs.Positions.{streams}
use Rattle.build_inventory.proofs.Cells.{few_all, stream_none, stream_more}
use Rattle.build_inventory.proofs.stream.Stream.write_cells.Goals as goal

pub loop-cell-init : goal.loop-cell-init
loop-cell-init c =
    let s = c.args.self in
    let r = s.placed.now in
    (refl, omega (arith, zero-mul r.entry.shape.lanes), stream_none (pos_at r) r.entry s.k c.args.cells.now)

pub next_cell-requires : goal.next_cell-requires
next_cell-requires c =
    let r = c.args.self.placed.now in
    let f = few_all c.loop-cell.cell-index r.entry.shape.lanes (streams r).shaped.few in
    omega (arith, c.requires, c.loop-cell.invariant.1)

pub loop-cell-preserved : goal.loop-cell-preserved
loop-cell-preserved c =
    let s = c.args.self in
    let r = s.placed.now in
    let l = c.loop-cell in
    let v = l.invariant in
    let e = c.next_cell.ensures in (
      e.entry ∙ v.0,
      omega (arith, rw v.0 at e.number, v.1),
      stream_more (pos_at r) r.entry s.k c.args.cells.now l.cells l.cell-index l.stream.k c.write_cell.new.cell
          v.2 c.loop-cell-test.true v.1 (c.write_cell.ensures ∙ rw v.0 at e.gave),
    )
