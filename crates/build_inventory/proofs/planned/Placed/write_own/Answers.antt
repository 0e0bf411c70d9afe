-- The heads are written over the whole part; the stream then fills the part behind them, and `own_made` joins the two.
use mathlib.Core.Path.{◌≡◌, refl, ap, ◌∙◌}
use mathlib.Core.List.{List}
use Prim.Native.Nat.{ℕ, ◌+◌, ◌-◌, ◌^◌, ◌≤◌}
use native.Mathlib.Omega.{arith}
use lib.ListN.{length, take, drop}
use lib.Pow.{pow_pos}
use Rattle.spacing.specs.Spacing.{M}
use Rattle.inventory.specs.Index.{stream}
use Rattle.inventory.proofs.Marks.{Streamable}
use Rattle.build_inventory.specs.Placed.{pos_at}
use Rattle.build_inventory.proofs.Parts.{part_long}
use Rattle.build_inventory.proofs.Positions.{streams}
use Rattle.build_inventory.proofs.Cells.{cursor_small, own_made}
use Rattle.build_inventory.proofs.planned.Placed.write_own.Goals.{After-stream, After-write_heads, Start}
use Rattle.build_inventory.proofs.planned.Placed.write_own.Goals as goal

marks : (c : Start) → Streamable (pos_at c.args.self.now) c.args.self.now.planned.plan c.args.self.now.entry
marks c = streams c.args.self.now

-- with the heads written
module _ (c : After-write_heads) where
  abbrev heads : ℕ
  heads = c.args.self.now.entry.shape.heads

  abbrev stored : List ℕ
  stored = c.write_heads.new.cells

  long : length stored ≡ length c.args.cells.now
  long = c.write_heads.auto.cells

  room : (heads ≤ 1) × (1 ≤ 2 ^ M c.args.self.now.planned.plan) × (1 + heads ≤ length stored)
  room =
      let o = pow_pos (M c.args.self.now.planned.plan) in
      let h = (marks (goal.at.After-write_heads c).Start).shaped.heads in
      (h, o, omega (arith, long, c.requires))

pub overflow_add-x : goal.overflow_add-x
overflow_add-x c =
    record { fits = (marks (goal.at.overflow_add-x c).Start).tagged }

pub overflow_add-from : goal.overflow_add-from
overflow_add-from c =
    omega (arith, room (goal.at.overflow_add-from c).After-write_heads)

-- behind the heads
module _ (c : After-stream) where
  abbrev held : ℕ
  held = c.pow2-own.result + 1 - (1 + heads (goal.at.After-stream c).After-write_heads)

  long_part : length (take held (drop (1 + heads (goal.at.After-stream c).After-write_heads) (stored (goal.at.After-stream c).After-write_heads))) ≡ held
  long_part =
      let w = (goal.at.After-stream c).After-write_heads in
      part_long (stored w) (1 + heads w) held (omega (arith, room w, long w, c.pow2-own.ensures, c.requires))

  held_is : held ≡ 2 ^ M c.args.self.now.planned.plan - c.args.self.now.entry.shape.heads
  held_is = let w = (goal.at.After-stream c).After-write_heads in omega (arith, c.pow2-own.ensures, room w)

pub offset_bounds-cells-from : goal.offset_bounds-cells-from
offset_bounds-cells-from c =
    omega (arith, room (goal.at.offset_bounds-cells-from c).After-write_heads)

pub slice_bounds-write_cells-count : goal.slice_bounds-write_cells-count
slice_bounds-write_cells-count c =
    omega (arith, c.pow2-own.ensures, room (goal.at.slice_bounds-write_cells-count c).After-write_heads)

pub slice_bounds-write_cells-start : goal.slice_bounds-write_cells-start
slice_bounds-write_cells-start c =
    omega (arith, c.pow2-own.ensures, room (goal.at.slice_bounds-write_cells-start c).After-write_heads)

pub write_cells-requires : goal.write_cells-requires
write_cells-requires c =
    let at_write_heads = (goal.at.write_cells-requires c).After-write_heads in
    let f = c.stream in
    rw (long_part (goal.at.write_cells-requires c).After-stream)
    (cursor_small (marks (goal.at.write_cells-requires c).Start).shaped (M c.args.self.now.planned.plan) f.result.k _ c.args.self.now.planned.of.small_m (omega (arith, f.ensures.1))
    (omega (arith, long at_write_heads, c.well_formed.1.1)))

pub returns : goal.returns
returns c =
    let at_write_heads = (goal.at.returns c).After-write_heads in
    let at_stream = (goal.at.returns c).After-stream in
    let a = c.args in
    let own = 2 ^ M a.self.now.planned.plan in
    let h = heads at_write_heads in
    let w = c.write_cells in
    let f = c.stream in
    record {
      cells = own_made (pos_at a.self.now) a.self.now.entry own a.before (marks (goal.at.returns c).Start).shaped.heads (pow_pos (M a.self.now.planned.plan))
          a.cells.now (stored at_write_heads) w.new.cells (1 + h) (held at_stream) f.result.k
          c.write_heads.ensures c.requires refl (held_is at_stream) f.ensures.1
          (rw f.ensures.0 at w.ensures.cells ∙ ap (stream (pos_at a.self.now) a.self.now.entry f.result.k) (long_part at_stream));
      entry = w.ensures.entry ∙ f.ensures.0;
      number = rw (f.ensures.0, long_part at_stream, held_is at_stream, f.ensures.1) at w.ensures.number;
    }
