-- Refused by the tests, or passed: then the first position from the sample's on is found, and its edge is the answer.
use mathlib.Core.List.{◌++◌}
use mathlib.Core.Path.{◌≡◌}
use Rattle.rank_sel.specs.Step.{next_from, option_of}
use Rattle.bit_record.specs.Record.{selected, of_sample}
use Rattle.inventory.specs.Lawful.{of_summary}
use Rattle.step_knob.specs.Step.{next_of, of_step}
use Rattle.rank_sel.proofs.Outcome.{answer_stopped}
use Rattle.step_knob.proofs.Edges.{edge_numbered, edge_told, next_picks}
use Rattle.step_knob.proofs.step.next.Goals.{After-next_from}
use Rattle.step_knob.proofs.step.next.Goals as goal

found : (c : After-next_from) →
    let a = c.args in
    let p = a.summary.plan in
    option_of c.next_from.result ≡ next_from (selected p.polarity a.words.now p.len) p.len c.in_ok-position.position
found c = let r = c.record-record.ensures in rw (← r.words, ← r.len, ← r.polarity) c.next_from.ensures

pub returns-in_err-position : goal.returns-in_err-position
unfolding next_of
returns-in_err-position c =
    let a = c.args in
    answer_stopped (of_step a.words.now a.summary a.sample) _ _ _ _ c.from_residual.ensures c.in_err-position.ensures

pub edge_at-requires : goal.edge_at-requires
edge_at-requires c =
    let a = c.args in
    let t = a.summary in
    edge_numbered a.words.now t.plan.len t.origin (of_summary t ++ of_sample t.origin t.plan.len a.sample) _ _ c.in_ok-position.ensures
    t.plan.polarity _ (next_picks _ _ _) _ (found (goal.at.edge_at-requires c).After-next_from)

pub returns : goal.returns
unfolding next_of
returns c =
    let a = c.args in
    let p = a.summary.plan in
    edge_told (of_step a.words.now a.summary a.sample) _ _ _ c.in_ok-position.ensures (next_from (selected p.polarity a.words.now p.len) p.len) _ _
    (found (goal.at.returns c).After-next_from) c.edge_at.ensures
