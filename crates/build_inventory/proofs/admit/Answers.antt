-- A record that its tests turn down stays so. Past them a plan that is answered is of the record, so `admit_plan` takes it and
-- answers; a refusal of the plan stays.
use mathlib.Core.Path.{◌≡◌, sym, ◌∙◌}
use Rattle.rank_sel.specs.Outcome.{refuse_by}
use Rattle.rank_sel.proofs.Outcome.{handed_on, tests_then, passed_then}
use Rattle.bit_record.specs.Record.{of_record_from}
use Rattle.spacing.specs.Spacing.{plan_of}
use Rattle.spacing.proofs.Facts.{plan_facts}
use Rattle.build_inventory.specs.Build.{build_of}
use Rattle.build_inventory.proofs.admit.Goals.{In_ok-test_record}
use Rattle.build_inventory.proofs.admit.Goals as goal

-- the record passed its tests: what the plan answers goes on
passed : (c : In_ok-test_record) →
    let a = c.args in
    plan_of a.words.now a.len a.polarity a.choice ≡ refuse_by (of_record_from a.words.now a.len a.origin) (plan_of a.words.now a.len a.polarity a.choice)
passed c = let a = c.args in passed_then (of_record_from a.words.now a.len a.origin) c.in_ok-test_record.ensures _

pub returns-in_err-test_record : goal.returns-in_err-test_record
unfolding build_of
returns-in_err-test_record c =
    let a = c.args in
    let cs = of_record_from a.words.now a.len a.origin in
    let p = plan_of a.words.now a.len a.polarity a.choice in
    handed_on _ _ c.from_residual.ensures (refuse_by cs p) (rw (tests_then cs p, ← c.in_err-test_record.ensures)) _

pub returns-in_err-plan : goal.returns-in_err-plan
unfolding build_of
returns-in_err-plan c =
    handed_on _ _ c.from_residual-in_err-plan.ensures _ (c.in_err-plan.ensures ∙ passed (goal.at.returns-in_err-plan c).In_ok-test_record) _

pub invariant_of-admit_plan : goal.invariant_of-admit_plan
invariant_of-admit_plan c =
    let a = c.args in
    record { of = (plan_facts a.words.now a.len a.polarity a.choice _ (sym c.in_ok-plan.ensures)).of }

pub returns : goal.returns
unfolding build_of
returns c =
    rw (← (c.in_ok-plan.ensures ∙ passed (goal.at.returns c).In_ok-test_record)) c.admit_plan.ensures
