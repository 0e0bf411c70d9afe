-- A plan that is answered is of the record, so `fit` takes it and answers; a refusal of the plan stays.
use mathlib.Core.Path.{sym, ◌∙◌}
use Rattle.rank_sel.proofs.Outcome.{handed_on}
use Rattle.spacing.proofs.Facts.{plan_facts}
use Rattle.build_inventory.specs.Build.{size_of}
use Rattle.build_inventory.proofs.size.Goals as goal

pub returns-in_err-plan : goal.returns-in_err-plan
unfolding size_of
returns-in_err-plan c =
    handed_on _ _ c.from_residual.ensures _ c.in_err-plan.ensures _

pub invariant_of-fit : goal.invariant_of-fit
invariant_of-fit c =
    let a = c.args in
    record { of = (plan_facts a.words.now a.len a.polarity a.choice _ (sym c.in_ok-plan.ensures)).of }

pub returns : goal.returns
unfolding size_of
returns c =
    c.fit.ensures ∙ rw (← c.in_ok-plan.ensures)
