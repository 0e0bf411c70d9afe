-- Refused as hint is; else the mark is decoded, and whether it is spilled says which cells are answered.
use mathlib.Core.Path.{sym, ◌∙◌}
use Prim.Native.Nat.{◌+◌, ◌<◌}
use native.Mathlib.Omega.{arith}
use lib.ListN.{length}
use borrow.Author.Rules.{rules}
use Rattle.read_inventory.proofs.Answers.{read_by, hint_decoded, hint_undecoded}
use Rattle.read_inventory.proofs.Parts.{Stored, store_refused, store_own, stored_refused, own_start, own_end, store_over, over_start, over_end, countable}
use Rattle.read_inventory.proofs.Passing.{hint_stopped, hint_passed, itself_readable, itself_hint}
use Rattle.read_inventory.proofs.Ten.{ten_err, ten_decoded}
use Rattle.read_inventory.proofs.jump.subinventory_part.Goals.{In-Ok}
use Rattle.read_inventory.proofs.jump.subinventory_part.Goals as goal

-- the mark is decoded
module _ (c : In-Ok) where
  stored : let x = c.in_ok-index.index in
      Stored x.words.now x.cells.summary x.cells.inventory.now x.cells.spill.now c.args.rank c.in-Ok.decoded
  stored =
      let x = c.in_ok-index.index in
      let w = c.in_ok-index.ensures in
      let e = sym c.in-Ok.ensures in
      record {
        readable = itself_readable _ _ _ _ x c.args.rank w;
        read = read_by x.cells.summary x.cells.inventory.now x.cells.spill.now c.args.rank _ e;
        hint = _;
        hinted = sym (itself_hint _ _ _ _ x c.args.rank w) ∙ hint_decoded x.cells.summary x.cells.inventory.now x.cells.spill.now c.args.rank _ e;
      }

  near : c.in-Ok.decoded.head.cell + 1 < length c.args.inventory.now
  near = rw (← c.in_ok-index.ensures.1.inventory) (own_start stored)

pub returns-in_err-index : goal.returns-in_err-index
returns-in_err-index c =
    stored_refused _ _ c.from_residual.ensures _ (store_refused _ _ _ _ _ _ (hint_stopped _ _ _ _ _ _ c.in_err-index.ensures)) _ _

pub returns-in_default : goal.returns-in_default
returns-in_default c = (
  store_refused _ _ _ _ _ _
      (hint_undecoded _ _ _ _ _ (ten_err (ten_decoded _ _ _ _) _ _ c.in_default.is c.decode.ensures)
      ∙ hint_passed _ _ _ _ _ c.args.rank c.in_ok-index.ensures),
  tt,
)

pub overflow_add-own : goal.overflow_add-own
overflow_add-own c =
    record { fits = omega (arith, near (goal.at.overflow_add-own c).In-Ok) }

pub offset_bounds-cells-own : goal.offset_bounds-cells-own
offset_bounds-cells-own c =
    let h = near (goal.at.offset_bounds-cells-own c).In-Ok in
    search rules

pub bounds-cells-own : goal.bounds-cells-own
bounds-cells-own c =
    own_start (stored (goal.at.bounds-cells-own c).In-Ok)

pub spilled_at-requires : goal.spilled_at-requires
spilled_at-requires c =
    countable (stored (goal.at.spilled_at-requires c).In-Ok)

pub overflow_sub-cells : goal.overflow_sub-cells
overflow_sub-cells c =
    omega (arith, over_start (stored (goal.at.overflow_sub-cells c).In-Ok) c.if-decoded.true)

pub returns-then-decoded : goal.returns-then-decoded
returns-then-decoded c =
    let s = stored (goal.at.returns-then-decoded c).In-Ok in
    let i = c.in_ok-index.ensures.1 in
    rw (← i.words, ← i.summary, ← i.inventory, ← i.spill) (
      store_over s c.if-decoded.true c.spilled_at.result c.min-n.result c.spilled_at.ensures
          c.min-n.ensures,
      over_end s c.if-decoded.true c.spilled_at.result c.min-n.result c.min-n.ensures,
    )

pub returns : goal.returns
returns c =
    let s = stored (goal.at.returns c).In-Ok in
    let i = c.in_ok-index.ensures.1 in
    rw (c.pow2.ensures, ← i.words, ← i.summary, ← i.inventory, ← i.spill) (store_own s c.if-decoded.false, own_end s)
