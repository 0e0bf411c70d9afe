-- Record and summary passed their tests: what is left is the sample's.
use mathlib.Core.Path.{◌∙◌}
use Rattle.rank_sel.proofs.Outcome.{passed_then}
use Rattle.bit_record.specs.Record.{of_record_from, position_at}
use Rattle.inventory.specs.Lawful.{of_summary}
use Rattle.step_knob.proofs.step.test_step.Goals as goal

pub returns : goal.returns
unfolding position_at
returns c =
    let a = c.args in
    let t = a.summary in
    c.position_at.ensures
    ∙ passed_then (of_summary t) c.in_ok-test_summary.ensures _
    ∙ passed_then (of_record_from a.words.now t.plan.len t.origin) c.in_ok-test_record.ensures _
