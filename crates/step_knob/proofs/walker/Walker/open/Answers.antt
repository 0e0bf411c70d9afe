-- Refused by the tests, or passed: then the walker is the one at the sample, and a turn passes its tests and gives what next does.
use mathlib.Core.Path.{sym}
use Prim.Native.Nat.{◌-◌}
use Rattle.rank_sel.specs.Outcome.{answer, NoneOf}
use Rattle.rank_sel.proofs.Outcome.{answer_passed, answer_stopped, passed_all}
use Rattle.step_knob.specs.Step.{of_step, open_of, walker_at}
use Rattle.step_knob.proofs.Walk.{next_turn, open_refuses, step_turn}
use Rattle.step_knob.proofs.walker.Walker.open.Goals.{In_ok-test_step}
use Rattle.step_knob.proofs.walker.Walker.open.Goals as goal

passed : (c : In_ok-test_step) → NoneOf (of_step c.args.words.now c.args.summary c.args.sample)
passed c =
    let a = c.args in
    (passed_all (of_step a.words.now a.summary a.sample) (answer (a.sample - a.summary.origin)) _ (sym c.in_ok-test_step.ensures)).0

pub returns-in_err-test_step-clause-opened : goal.returns-in_err-test_step-clause-opened
unfolding open_of
returns-in_err-test_step-clause-opened c =
    let a = c.args in
    answer_stopped (of_step a.words.now a.summary a.sample) _ _ _ _ c.from_residual.ensures c.in_err-test_step.ensures

pub returns-clause-opened : goal.returns-clause-opened
unfolding open_of
returns-clause-opened c =
    let a = c.args in
    let t = a.summary in
    answer_passed (of_step a.words.now t a.sample) _ _ c.in_ok-test_step.ensures
    (λ p. answer (walker_at a.words t.plan.len t.plan.polarity t.origin a.sample))

pub returns-clause-first : goal.returns-clause-first
returns-clause-first c =
    let a = c.args in
    sym (next_turn a.words.now a.summary a.sample (passed (goal.at.returns-clause-first c).In_ok-test_step))

pub returns-clause-admitted : goal.returns-clause-admitted
returns-clause-admitted c =
    let a = c.args in
    step_turn a.words.now a.summary a.sample (passed (goal.at.returns-clause-admitted c).In_ok-test_step)

pub returns-in_err-test_step-clause-refuses : goal.returns-in_err-test_step-clause-refuses
unfolding open_of
returns-in_err-test_step-clause-refuses c =
    let a = c.args in
    open_refuses a.words a.summary a.sample _
    (answer_stopped (of_step a.words.now a.summary a.sample) _ _ _ _ c.from_residual.ensures c.in_err-test_step.ensures)

pub returns-clause-refuses : goal.returns-clause-refuses
unfolding open_of
returns-clause-refuses c =
    let a = c.args in
    let t = a.summary in
    open_refuses a.words t a.sample _
    (answer_passed (of_step a.words.now t a.sample) _ _ c.in_ok-test_step.ensures
    (λ p. answer (walker_at a.words t.plan.len t.plan.polarity t.origin a.sample)))
