-- A summary with a polarity over 1 is turned down; else the entry's edge for the summary as read goes out by `give_edge`.
use mathlib.Core.Path.{refl, ap, ◌∙◌}
use Rattle.inventory.specs.declared.summary.Summary.{Summary}
use Rattle.step_knob.specs.Step.{previous_of}
use Rattle.edge_index_c.specs.Calls.{previous_c}
use Rattle.edge_index_c.proofs.Returns.{returned_edge}
use Rattle.edge_index_c.proofs.edge_index_previous.Goals as goal

pub returns-in_default : goal.returns-in_default
unfolding previous_c
returns-in_default c =
    rw (c.in_default.ensures) (record { status = refl; out = refl })

pub returns : goal.returns
unfolding previous_c
returns c =
    let a = c.args in
    rw (c.in-Some.ensures.0)
    (returned_edge
    (c.previous.ensures.steps ∙ ap (λ (t : Summary). previous_of a.words.now t a.sample) c.in-Some.ensures.1)
    c.give_edge.ensures)
