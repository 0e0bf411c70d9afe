-- After so many turns the stream's first cells stand in front of what was lent, each written as `next_cell` gave it.
use mathlib.Core.Path.{◌≡◌}
use mathlib.Core.List.{◌++◌}
use Prim.Native.Nat.{◌+◌, ◌*◌}
use lib.ListN.{drop}
use Rattle.inventory.specs.Index.{stream}
use Rattle.build_inventory.specs.Placed.{pos_at}
use Rattle.build_inventory.proofs.stream.Stream.write_cells.Given as goal

abbrev pub invariant-loop-cell : goal.invariant-loop-cell
invariant-loop-cell l =
    let s = l.initial.stream in
    (l.stream.placed.now ≡ s.placed.now)
    × (l.stream.k ≡ s.k + l.cell-index * s.placed.now.entry.shape.lanes)
    × (l.cells ≡ stream (pos_at s.placed.now) s.placed.now.entry s.k l.cell-index ++ drop l.cell-index l.initial.cells)
