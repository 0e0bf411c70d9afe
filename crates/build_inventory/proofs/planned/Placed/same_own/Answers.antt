-- The cells behind the heads are compared where the heads agree: with `own_yes` and `own_no` that is the whole entry's answer.
use mathlib.Core.Path.{◌≡◌}
use Prim.Native.Nat.{ℕ, ◌+◌, ◌-◌, ◌^◌, ◌≤◌}
use native.Mathlib.Omega.{arith}
use lib.ListN.{length, take, drop}
use lib.Pow.{pow_pos}
use Rattle.std.specs.Prelude.{is_some}
use Rattle.spacing.specs.Spacing.{M}
use Rattle.inventory.proofs.Marks.{Streamable}
use Rattle.build_inventory.specs.Placed.{pos_at}
use Rattle.build_inventory.proofs.Comparing.{own_yes, own_no}
use Rattle.build_inventory.proofs.Parts.{part_long}
use Rattle.build_inventory.proofs.Positions.{streams}
use Rattle.build_inventory.proofs.Cells.{cursor_small}
use Rattle.build_inventory.proofs.planned.Placed.same_own.Goals.{After-stream, Start}
use Rattle.build_inventory.proofs.planned.Placed.same_own.Goals as goal

module _ (c : Start) where
  marks : Streamable (pos_at c.args.self.now) c.args.self.now.planned.plan c.args.self.now.entry
  marks = streams c.args.self.now

  abbrev heads : ℕ
  heads = c.args.self.now.entry.shape.heads

  room : (heads ≤ 1) × (1 ≤ 2 ^ M c.args.self.now.planned.plan) × (1 + heads ≤ length c.args.cells.now)
  room =
      let o = pow_pos (M c.args.self.now.planned.plan) in
      let h = marks.shaped.heads in
      (h, o, omega (arith, c.requires))

pub overflow_add-x : goal.overflow_add-x
overflow_add-x c =
    record { fits = (marks (goal.at.overflow_add-x c).Start).tagged }

pub same_heads-requires : goal.same_heads-requires
same_heads-requires c =
    let g = room (goal.at.same_heads-requires c).Start in
    (g.0, omega (arith, c.requires))

pub returns-then-not-same_heads : goal.returns-then-not-same_heads
returns-then-not-same_heads c =
    let a = c.args in
    let h = c.same_heads in
    record {
      same = own_no (pos_at a.self.now) a.self.now.entry (2 ^ M a.self.now.planned.plan) a.before a.cells.now (marks (goal.at.returns-then-not-same_heads c).Start).shaped.heads
          (pow_pos (M a.self.now.planned.plan)) c.requires h.result h.ensures c.if-not-same_heads.true;
      entry = tt;
      number = tt;
    }

pub overflow_add-from : goal.overflow_add-from
overflow_add-from c =
    omega (arith, room (goal.at.overflow_add-from c).Start)

pub offset_bounds-cells-from : goal.offset_bounds-cells-from
offset_bounds-cells-from c =
    omega (arith, room (goal.at.offset_bounds-cells-from c).Start)

pub slice_bounds-same_cells-count : goal.slice_bounds-same_cells-count
slice_bounds-same_cells-count c =
    omega (arith, c.pow2-own.ensures, room (goal.at.slice_bounds-same_cells-count c).Start)

pub slice_bounds-same_cells-start : goal.slice_bounds-same_cells-start
slice_bounds-same_cells-start c =
    omega (arith, c.pow2-own.ensures, room (goal.at.slice_bounds-same_cells-start c).Start)

-- behind the heads
module _ (c : After-stream) where
  abbrev held : ℕ
  held = c.pow2-own.result + 1 - (1 + c.args.self.now.entry.shape.heads)

  long_part : length (take held (drop (1 + c.args.self.now.entry.shape.heads) c.args.cells.now)) ≡ held
  long_part =
      part_long c.args.cells.now (1 + c.args.self.now.entry.shape.heads) held
      (omega (arith, room (goal.at.After-stream c).Start, c.pow2-own.ensures, c.requires))

  held_is : held ≡ 2 ^ M c.args.self.now.planned.plan - c.args.self.now.entry.shape.heads
  held_is = omega (arith, c.pow2-own.ensures, room (goal.at.After-stream c).Start)

pub same_cells-requires : goal.same_cells-requires
same_cells-requires c =
    let f = c.stream in
    rw (long_part (goal.at.same_cells-requires c).After-stream)
    (cursor_small (marks (goal.at.same_cells-requires c).Start).shaped (M c.args.self.now.planned.plan) f.result.k _ c.args.self.now.planned.of.small_m (omega (arith, f.ensures.1))
    (omega (arith, c.well_formed.1.1)))

pub returns : goal.returns
returns c =
    let at_stream = (goal.at.returns c).After-stream in
    let a = c.args in
    let r = a.self.now in
    let w = c.same_cells in
    let f = c.stream in
    let h = c.same_heads in
    record {
      same = own_yes (pos_at r) r.entry (2 ^ M r.planned.plan) a.before a.cells.now (marks (goal.at.returns c).Start).shaped.heads
          (pow_pos (M r.planned.plan)) c.requires h.result h.ensures (is_some w.result) (held at_stream) f.result.k
          c.if-not-same_heads.false (held_is at_stream) f.ensures.1 (rw (f.ensures.0, long_part at_stream) at w.ensures.same);
      entry = rw f.ensures.0 at w.ensures.entry;
      number = rw (f.ensures.0, long_part at_stream, held_is at_stream, f.ensures.1) at w.ensures.number;
    }
