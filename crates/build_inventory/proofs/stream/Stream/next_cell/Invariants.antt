-- After so many turns the cell packs as many lanes from where the stream stood; one more has room, since all of them fill a cell.
use mathlib.Core.Path.{◌≡◌}
use Prim.Native.Nat.{◌+◌, ◌*◌}
use Rattle.inventory.specs.Index.{lane}
use Rattle.inventory.specs.Lanes.{pack}
use Rattle.build_inventory.specs.Placed.{pos_at}
use Rattle.build_inventory.proofs.stream.Stream.next_cell.Given as goal

abbrev pub invariant-loop : goal.invariant-loop
invariant-loop l =
    let s = l.initial.self in
    (l.shift ≡ l.width * l.counter)
    × (l.self.placed.now ≡ s.placed.now)
    × (l.self.k ≡ s.k + l.counter)
    × (l.cell ≡ pack l.width (λ i. lane (pos_at s.placed.now) s.placed.now.entry (s.k + i)) l.counter)
