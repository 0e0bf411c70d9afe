use mathlib.Core.Path.{◌≡◌, refl, sym, ap, ◌∙◌}
use Prim.Native.Nat.{◌%◌, ◌^◌, ◌<◌, ℕ, ◌+◌, ◌*◌, ◌≤◌}
use native.Mathlib.Nat.{mul-zero, mul_comm}
use native.Mathlib.Omega.{arith}
use Rattle.inventory.specs.Index.{lane, packed}
use Rattle.inventory.specs.Lanes.{pack}
use Rattle.inventory.specs.declared.entry.Entry.{Entry}
use Rattle.inventory.proofs.Lanes.{pack-zero, lane_fits, some_width, cell_fits, cell_more}
use Rattle.inventory.proofs.Marks.{Streamable, lane_lt}
use Rattle.build_inventory.specs.Placed.{pos_at}
use Rattle.build_inventory.specs.declared.planned.Placed.{Placed}
use Rattle.build_inventory.proofs.Positions.{streams}
use Rattle.build_inventory.proofs.stream.Stream.next_cell.Goals.{After-next_lane}
use Rattle.build_inventory.proofs.stream.Stream.next_cell.Goals as goal

module _ (c : After-next_lane) where
  abbrev r : Placed
  r = c.args.self.now.placed.now

  abbrev x : Entry
  x = r.entry

  marks : Streamable (pos_at r) r.planned.plan x
  marks = streams r

  abbrev lanes_from : ℕ → ℕ
  lanes_from i = lane (pos_at r) x (c.args.self.now.k + i)

  fits : x.shape.width + x.shape.width * c.loop.counter ≤ 64
  fits = lane_fits x.shape.width x.shape.lanes c.loop.counter marks.shaped.cell c.loop-test.true

  abbrev value : ℕ
  value = c.next_lane.result

  lane_is : value ≡ lanes_from c.loop.counter
  lane_is = rw c.loop.invariant.1 at c.next_lane.ensures.gave ∙ ap (lane (pos_at r) x) c.loop.invariant.2

  small : (i : ℕ) → lanes_from i < 2 ^ x.shape.width
  small i = lane_lt (pos_at r) r.planned.plan x marks (c.args.self.now.k + i)

  room : c.loop.cell + value * 2 ^ c.loop.shift % 2 ^ 64 < 2 ^ 64
  room =
      let s = x.shape in
      let l = c.loop in
      cell_fits s.width s.lanes l.counter l.shift l.cell value lanes_from
      marks.shaped.cell c.loop-test.true l.invariant.0 l.invariant.3 lane_is small

  more : c.loop.cell + value * 2 ^ c.loop.shift % 2 ^ 64 ≡ pack x.shape.width lanes_from (c.loop.counter + 1)
  more =
      let s = x.shape in
      let l = c.loop in
      cell_more s.width s.lanes l.counter l.shift l.cell value lanes_from
      marks.shaped.cell c.loop-test.true l.invariant.0 l.invariant.3 lane_is small

pub loop-init : goal.loop-init
loop-init c =
    let s = c.args.self.now in
    let w = s.placed.now.entry.shape.width in
    let z = pack-zero w (λ i. lane (pos_at s.placed.now) s.placed.now.entry (s.k + i)) in
    (omega (arith, mul-zero w), refl, omega arith, sym z)

pub next_lane-requires : goal.next_lane-requires
next_lane-requires c =
    omega (arith, (streams c.args.self.now.placed.now).shaped.few, c.loop.invariant.2)

pub overflow_shl-cell : goal.overflow_shl-cell
overflow_shl-cell c =
    let at_next_lane = (goal.at.overflow_shl-cell c).After-next_lane in
    let s = (x at_next_lane).shape in
    omega (arith, fits at_next_lane, some_width s.width s.lanes (marks at_next_lane).shaped.cell)

pub overflow_add-cell : goal.overflow_add-cell
overflow_add-cell c =
    record { fits = room (goal.at.overflow_add-cell c).After-next_lane }

pub overflow_add-shift : goal.overflow_add-shift
overflow_add-shift c =
    record { fits = omega (arith, fits (goal.at.overflow_add-shift c).After-next_lane) }

pub loop-preserved : goal.loop-preserved
loop-preserved c =
    let at_next_lane = (goal.at.loop-preserved c).After-next_lane in
    let w = (x at_next_lane).shape.width in
    let t = c.loop.counter in
    let e = c.next_lane.ensures in (
      omega (arith, mul_comm w t, mul_comm w (t + 1)),
      e.entry ∙ c.loop.invariant.1,
      omega (arith, e.number),
      more at_next_lane,
    )

pub returns : goal.returns
unfolding packed
returns c =
    let s = c.args.self.now in
    let v = c.loop.invariant in
    let e : c.loop.counter ≡ s.placed.now.entry.shape.lanes = omega arith in
    record {
      gave = v.3 ∙ ap (pack s.placed.now.entry.shape.width (λ i. lane (pos_at s.placed.now) s.placed.now.entry (s.k + i))) e;
      entry = v.1;
      number = omega arith;
    }
