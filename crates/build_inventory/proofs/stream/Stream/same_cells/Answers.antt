use mathlib.Core.Path.{◌≡◌, refl, sym, ap, ◌∙◌}
use Prim.Native.Nat.{ℕ, ◌+◌, ◌*◌}
use native.Mathlib.Nat.{zero-mul}
use native.Mathlib.Omega.{arith}
use lib.ListN.{length}
use Rattle.rank_sel.proofs.Lists.{same_yes, same_no}
use Rattle.inventory.specs.Index.{stream}
use Rattle.build_inventory.specs.Placed.{pos_at}
use Rattle.build_inventory.proofs.Cells.{few_all}
use Rattle.build_inventory.proofs.Comparing.{same_none, same_more, same_all, same_stop}
use Rattle.build_inventory.proofs.Positions.{streams}
use Rattle.build_inventory.proofs.stream.Stream.same_cells.Goals as goal

pub loop-cell-init : goal.loop-cell-init
loop-cell-init c =
    let s = c.args.self in
    let r = s.placed.now in
    (refl, omega (arith, zero-mul r.entry.shape.lanes), same_none (pos_at r) r.entry s.k c.args.cells.now)

pub next_cell-requires : goal.next_cell-requires
next_cell-requires c =
    let r = c.args.self.placed.now in
    let f = few_all c.loop-cell.cell-index r.entry.shape.lanes (streams r).shaped.few in
    omega (arith, c.requires, c.loop-cell.invariant.1)

pub returns-then-cell-next_cell : goal.returns-then-cell-next_cell
returns-then-cell-next_cell c =
    let s = c.args.self in
    let r = s.placed.now in
    let l = c.loop-cell in
    let v = l.invariant in
    let e = c.next_cell.ensures in
    let a = c.args.cells.now in
    let n =
    same_stop (pos_at r) r.entry s.k a l.cell-index l.stream.k c.next_cell.result
    c.loop-cell-test.true v.1 (rw v.0 at e.gave) c.if-cell-next_cell.true in
    record {
      same = sym (same_no a (stream (pos_at r) r.entry s.k (length a)) n);
      entry = tt;
      number = tt;
    }

pub loop-cell-preserved : goal.loop-cell-preserved
loop-cell-preserved c =
    let s = c.args.self in
    let r = s.placed.now in
    let l = c.loop-cell in
    let v = l.invariant in
    let e = c.next_cell.ensures in (
      e.entry ∙ v.0,
      omega (arith, rw v.0 at e.number, v.1),
      same_more (pos_at r) r.entry s.k c.args.cells.now l.cell-index l.stream.k c.next_cell.result
          v.2 c.loop-cell-test.true v.1 (rw v.0 at e.gave) c.if-cell-next_cell.false,
    )

pub returns : goal.returns
returns c =
    let s = c.args.self in
    let r = s.placed.now in
    let a = c.args.cells.now in
    let l = c.loop-cell in
    let v = l.invariant in
    let e : l.cell-index ≡ length a = omega (arith, l.auto.cell-index-end) in
    record {
      same = sym (same_yes _ _ (same_all (pos_at r) r.entry s.k a l.cell-index v.2 e));
      entry = v.0;
      number = v.1 ∙ ap (λ (z : ℕ). s.k + z * r.entry.shape.lanes) e;
    }
