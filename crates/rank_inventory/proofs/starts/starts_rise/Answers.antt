-- A start that breaks the rule breaks it for good (`rising_cut`); one that keeps it says the least for the next.
use native.Mathlib.Omega.{arith}
use Rattle.rank_inventory.proofs.Rising.{none_passed, passed_more, rising_cut}
use Rattle.rank_inventory.proofs.starts.starts_rise.Goals.{then-start-least-via-then-start-least, then-start-least-via-else-start-least+then-cells-start}
use Rattle.rank_inventory.proofs.starts.starts_rise.Goals as goal

pub loop-entry-init : goal.loop-entry-init
loop-entry-init c =
    none_passed _ _

pub returns-then-start-least : goal.returns-then-start-least
returns-then-start-least c =
    rising_cut _ _ _ _ c.loop-entry-test.true
    (λ l h. elim c.then-start-least.branch [
      | then-start-least-via-then-start-least w ↦ omega (arith, c.start_at-start.ensures, c.loop-entry.invariant.behind)
      | then-start-least-via-else-start-least+then-cells-start w ↦ omega (arith, c.start_at-start.ensures)
    ])

pub loop-entry-preserved : goal.loop-entry-preserved
loop-entry-preserved c =
    let e = c.start_at-start.ensures in
    passed_more _ _ _ _ _ c.loop-entry.invariant (omega (arith, c.if-start-least.false)) (omega (arith, c.if-cells-start.false))
    (omega arith)
