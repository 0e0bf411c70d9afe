use Prim.Native.Nat.{◌+◌, ◌<◌}
use native.Mathlib.Omega.{arith}
use lib.Pow.{pow_mono}
use Rattle.spacing.specs.Spacing.{L}
use Rattle.inventory.specs.Index.{entries_of}
use Rattle.inventory.proofs.Index.{spill_start_few}
use Rattle.inventory.proofs.Ranks.{entry_below}
use Rattle.build_inventory.specs.Placed.{pos_of}
use Rattle.build_inventory.proofs.Turns.{Reached, reached_none, reached_more}
use Rattle.build_inventory.proofs.planned.Planned.spill_count.Goals.{After-entry_at-x, In-loop-e}
use Rattle.build_inventory.proofs.planned.Planned.spill_count.Goals as goal

module _ (c : In-loop-e) where
  below : c.loop-e.e < entries_of c.args.self.now.plan
  below = omega (arith, c.entry_count-count.ensures, c.loop-e-test.true)

-- the next entry is reached
more : (c : After-entry_at-x) →
    let a = c.args in
    let l = c.loop-e in
    Reached (pos_of a.self.now) a.self.now.plan (l.e + 1) (l.spilled + c.entry_at-x.result.entry.spilled) c.entry_at-x.result.entry.next
more c = reached_more c.loop-e.invariant (below (goal.at.After-entry_at-x c).In-loop-e) c.entry_at-x.ensures.1

pub loop-e-init : goal.loop-e-init
loop-e-init c =
    reached_none c.first_start-start.ensures

pub entry_at-x-requires : goal.entry_at-x-requires
entry_at-x-requires c =
    let l = c.loop-e in
    (entry_below c.args.self.now.plan l.e (below c), l.invariant.begins)

pub overflow_add-spilled : goal.overflow_add-spilled
overflow_add-spilled c =
    let a = c.args in
    let r = c.args.self.now.of in
    let e = c.loop-e.e in
    let u = pow_mono {i = L a.self.now.plan} {j = 63} r.small_l in
    let n = spill_start_few (pos_of a.self.now) a.self.now.plan (e + 1) in
    let m = (more (goal.at.overflow_add-spilled c).After-entry_at-x).spills in
    record { fits = omega (arith, entry_below a.self.now.plan e (below (goal.at.overflow_add-spilled c).In-loop-e), r.few, r.admitted.short) }

pub loop-e-preserved : goal.loop-e-preserved
loop-e-preserved c =
    more (goal.at.loop-e-preserved c).After-entry_at-x
