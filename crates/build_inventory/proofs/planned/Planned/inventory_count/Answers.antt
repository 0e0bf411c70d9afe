-- The count is n * cells + 1, which is at most `most` exactly where n is at most (most - 1) / cells: no product can wrap.
use mathlib.Core.Path.{◌≡◌, ap}
use Prim.Native.Nat.{◌+◌, ◌*◌, ◌≤◌}
use native.Mathlib.Omega.{arith}
use borrow.Author.Tests.{lt-ltb, le-ltb}
use Rattle.rank_sel.specs.Outcome.{answer}
use Rattle.inventory.specs.Index.{inventory_len_of}
use Rattle.build_inventory.proofs.Turns.{len_over, len_within}
use Rattle.build_inventory.proofs.planned.Planned.inventory_count.Goals.{Else-most-cells}
use Rattle.build_inventory.proofs.planned.Planned.inventory_count.Goals as goal

-- the count is within the bound
module _ (c : Else-most-cells) where
  within : (c.entry_count-count.result * c.entry_len-cells.result + 1 ≡ inventory_len_of c.args.self.now.plan)
      × (c.entry_count-count.result * c.entry_len-cells.result + 1 ≤ c.args.most)
  within =
      let a = c.args in
      len_within a.self.now.plan a.most (omega arith) c.entry_count-count.ensures c.entry_len-cells.ensures c.if-most-cells.false

pub returns-then-most-eq0 : goal.returns-then-most-eq0
unfolding inventory_len_of
returns-then-most-eq0 c =
    let a = c.args in rw (lt-ltb a.most (inventory_len_of a.self.now.plan) (omega arith))

pub returns-then-most-cells : goal.returns-then-most-cells
returns-then-most-cells c =
    let a = c.args in
    let l = len_over a.self.now.plan a.most (omega arith) c.entry_count-count.ensures c.entry_len-cells.ensures c.if-most-cells.true in
    rw (lt-ltb a.most (inventory_len_of a.self.now.plan) l)

pub returns : goal.returns
returns c =
    let a = c.args in
    let w = within c in
    rw (le-ltb a.most (inventory_len_of a.self.now.plan) (omega arith)) (ap answer w.0)
