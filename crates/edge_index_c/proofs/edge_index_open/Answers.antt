-- A summary with a polarity over 1 is turned down; else the walker for the summary as read goes out as its numbers by `give`.
use mathlib.Core.Path.{refl, ap, ◌∙◌}
use Rattle.rank_sel.specs.Outcome.{Outcome, answer, and_then}
use Rattle.inventory.specs.declared.summary.Summary.{Summary}
use Rattle.step_knob.specs.Step.{open_of}
use Rattle.step_knob.specs.declared.walker.Walker.{Walker}
use Rattle.edge_index_c.specs.Calls.{walker_numbers, open_c}
use Rattle.edge_index_c.proofs.Returns.{returned_as, mapped}
use Rattle.edge_index_c.proofs.edge_index_open.Goals as goal

pub returns-in_default : goal.returns-in_default
unfolding open_c
returns-in_default c =
    rw (c.in_default.ensures) (record { status = refl; out = refl })

pub returns : goal.returns
unfolding open_c
returns c =
    let a = c.args in
    rw (c.in-Some.ensures.0)
    (returned_as
    (mapped walker_numbers _ _ c.map.ensures.cases
    ∙ ap (λ (o : Outcome Walker). and_then o (λ w. answer (walker_numbers w)))
    (c.open-told.ensures.opened ∙ ap (λ (t : Summary). open_of a.words t a.sample) c.in-Some.ensures.1))
    c.give.ensures)
