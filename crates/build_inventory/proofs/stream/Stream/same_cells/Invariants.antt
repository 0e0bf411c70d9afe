-- While the first cells are the stream's, the loop goes on; a cell that differs makes the lists differ.
use mathlib.Core.Path.{◌≡◌}
use Prim.Native.Nat.{◌+◌, ◌*◌}
use lib.ListN.{take}
use Rattle.inventory.specs.Index.{stream}
use Rattle.build_inventory.specs.Placed.{pos_at}
use Rattle.build_inventory.proofs.stream.Stream.same_cells.Given as goal

abbrev pub invariant-loop-cell : goal.invariant-loop-cell
invariant-loop-cell l =
    let s = l.initial.stream in
    (l.stream.placed.now ≡ s.placed.now)
    × (l.stream.k ≡ s.k + l.cell-index * s.placed.now.entry.shape.lanes)
    × (take l.cell-index l.cells ≡ stream (pos_at s.placed.now) s.placed.now.entry s.k l.cell-index)
