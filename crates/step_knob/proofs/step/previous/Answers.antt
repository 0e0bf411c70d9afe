-- Refused by the tests, or passed: then the last position before the sample's is found, and its edge is the answer.
use mathlib.Core.List.{◌++◌}
use mathlib.Core.Path.{◌≡◌}
use Rattle.rank_sel.specs.Step.{last_before, option_of}
use Rattle.bit_record.specs.Record.{selected, of_sample}
use Rattle.inventory.specs.Lawful.{of_summary}
use Rattle.step_knob.specs.Step.{previous_of, of_step}
use Rattle.rank_sel.proofs.Outcome.{answer_stopped}
use Rattle.step_knob.proofs.Edges.{edge_numbered, edge_told, last_picks}
use Rattle.step_knob.proofs.step.previous.Goals.{After-last_before}
use Rattle.step_knob.proofs.step.previous.Goals as goal

found : (c : After-last_before) →
    let a = c.args in
    let p = a.summary.plan in
    option_of c.last_before.result ≡ last_before (selected p.polarity a.words.now p.len) c.in_ok-position.position
found c = let r = c.record-record.ensures in rw (← r.words, ← r.len, ← r.polarity) c.last_before.ensures

pub returns-in_err-position : goal.returns-in_err-position
unfolding previous_of
returns-in_err-position c =
    let a = c.args in
    answer_stopped (of_step a.words.now a.summary a.sample) _ _ _ _ c.from_residual.ensures c.in_err-position.ensures

pub edge_at-requires : goal.edge_at-requires
edge_at-requires c =
    let a = c.args in
    let t = a.summary in
    edge_numbered a.words.now t.plan.len t.origin (of_summary t ++ of_sample t.origin t.plan.len a.sample) _ _ c.in_ok-position.ensures
    t.plan.polarity _ (last_picks _ _) _ (found (goal.at.edge_at-requires c).After-last_before)

pub returns : goal.returns
unfolding previous_of
returns c =
    let a = c.args in
    let p = a.summary.plan in
    edge_told (of_step a.words.now a.summary a.sample) _ _ _ c.in_ok-position.ensures (last_before (selected p.polarity a.words.now p.len)) _ _
    (found (goal.at.returns c).After-last_before) c.edge_at.ensures
