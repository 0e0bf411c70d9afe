-- The spilled cells are the stream from where the own cells leave the cursor.
use mathlib.Core.Path.{ap}
use mathlib.Core.List.{List, ◌++◌}
use Prim.Native.Nat.{ℕ}
use native.Mathlib.Omega.{arith}
use lib.ListN.{drop}
use lib.Seq.{length-take-le}
use Rattle.spacing.specs.Spacing.{M}
use Rattle.inventory.specs.Index.{spill_cells}
use Rattle.build_inventory.proofs.Positions.{streams}
use Rattle.build_inventory.proofs.Cells.{cursor_small}
use Rattle.build_inventory.proofs.planned.Placed.write_entry.Goals as goal

pub write_cells-requires : goal.write_cells-requires
write_cells-requires c =
    let r = c.args.self.now in
    let w = c.write_own-stream in
    rw (length-take-le r.entry.spilled c.args.spill.now c.requires.1)
    (cursor_small (streams r).shaped (M r.planned.plan) w.result.k r.entry.spilled r.planned.of.small_m (omega (arith, w.ensures.number))
    (omega (arith, c.requires.1, c.well_formed.1.1.1)))

pub returns : goal.returns
unfolding spill_cells
returns c =
    let r = c.args.self.now in
    let l = c.args.spill.now in
    let w = c.write_own-stream.ensures in
    let e = rw (w.entry, w.number, length-take-le r.entry.spilled l c.requires.1) at c.write_cells.ensures.cells in
    record { cells = w.cells; spill = ap (λ (z : List ℕ). z ++ drop r.entry.spilled l) e }
