-- Refused by the record's tests or the place's, or passed: then the first position from the place's on is found, and its edge is
-- the answer.
use mathlib.Core.Path.{◌≡◌, ◌∙◌}
use Prim.Native.Nat.{◌-◌}
use Rattle.rank_sel.specs.Outcome.{answer, refuse_by}
use Rattle.rank_sel.specs.Step.{next_from}
use Rattle.rank_sel.proofs.Outcome.{answer_stopped, passed_then, tests_handed_on}
use Rattle.bit_record.specs.Record.{selected, of_record_from, of_sample, position_at}
use Rattle.step_knob.specs.Step.{of_turn, turn_of}
use Rattle.step_knob.proofs.Edges.{edge_numbered, edge_told, next_picks}
use Rattle.step_knob.proofs.walker.Walker.edge.Goals.{In_ok-position}
use Rattle.step_knob.proofs.walker.Walker.edge.Goals as goal

told : (c : In_ok-position) →
    let w = c.args.self.now in
    answer c.in_ok-position.position ≡ refuse_by (of_turn w.words.now w.len w.origin w.place) (answer (w.place - w.origin))
unfolding position_at
told c =
    let w = c.args.self.now in
    c.in_ok-position.ensures ∙ passed_then (of_record_from w.words.now w.len w.origin) c.in_ok-test_record.ensures _

pub returns-in_err-test_record : goal.returns-in_err-test_record
unfolding turn_of
returns-in_err-test_record c =
    let w = c.args.self.now in
    tests_handed_on _ _ c.from_residual.ensures (of_record_from w.words.now w.len w.origin) c.in_err-test_record.ensures _

pub returns-in_err-position : goal.returns-in_err-position
unfolding turn_of position_at
returns-in_err-position c =
    let w = c.args.self.now in
    answer_stopped (of_turn w.words.now w.len w.origin w.place) _ _ _ _ c.from_residual-in_err-position.ensures
    (c.in_err-position.ensures ∙ passed_then (of_record_from w.words.now w.len w.origin) c.in_ok-test_record.ensures _)

pub edge_at-requires : goal.edge_at-requires
edge_at-requires c =
    let w = c.args.self.now in
    edge_numbered w.words.now w.len w.origin (of_sample w.origin w.len w.place) _ _ (told (goal.at.edge_at-requires c).In_ok-position)
    w.polarity _ (next_picks _ _ _) _ c.next_from.ensures

pub returns : goal.returns
unfolding turn_of
returns c =
    let w = c.args.self.now in
    edge_told (of_turn w.words.now w.len w.origin w.place) _ _ _ (told (goal.at.returns c).In_ok-position)
    (next_from (selected w.polarity w.words.now w.len) w.len) _ _ c.next_from.ensures c.edge_at.ensures
