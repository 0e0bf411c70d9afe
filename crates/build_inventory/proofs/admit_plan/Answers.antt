-- The counts that `fit` answers decide on 7, and they are those of the plan's summary; a refusal by 6 stays.
use mathlib.Core.Path.{sym, ap}
use borrow.Author.Tests.{lt-ltb, le-ltb}
use Rattle.rank_sel.specs.Outcome.{answer}
use Rattle.rank_sel.proofs.Outcome.{handed_on}
use Rattle.build_inventory.specs.Build.{build_from}
use Rattle.build_inventory.proofs.Outcomes.{fitting, summary_made}
use Rattle.build_inventory.proofs.admit_plan.Goals as goal

pub returns-in_err-sizes : goal.returns-in_err-sizes
unfolding build_from
returns-in_err-sizes c =
    handed_on _ _ c.from_residual.ensures _ c.in_err-sizes.ensures _

pub returns-then-lent-sizes : goal.returns-then-lent-sizes
unfolding build_from
returns-then-lent-sizes c =
    rw (← c.in_ok-sizes.ensures, lt-ltb _ _ c.if-lent-sizes.true)

pub returns : goal.returns
unfolding build_from
returns c =
    let a = c.args in
    let e = c.in_ok-sizes.ensures in
    let s = fitting (sym e) in
    rw (← e, le-ltb _ _ c.if-lent-sizes.false) (ap answer (summary_made a.planned.now.words.now a.origin a.planned.now.plan _ _ s.inventory s.spill))
