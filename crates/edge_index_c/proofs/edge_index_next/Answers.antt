-- A summary with a polarity over 1 is turned down; else the entry's edge for the summary as read goes out by `give_edge`.
use mathlib.Core.Path.{refl, ap, ◌∙◌}
use Rattle.inventory.specs.declared.summary.Summary.{Summary}
use Rattle.step_knob.specs.Step.{next_of}
use Rattle.edge_index_c.specs.Calls.{next_c}
use Rattle.edge_index_c.proofs.Returns.{returned_edge}
use Rattle.edge_index_c.proofs.edge_index_next.Goals as goal

pub returns-in_default : goal.returns-in_default
unfolding next_c
returns-in_default c =
    rw (c.in_default.ensures) (record { status = refl; out = refl })

pub returns : goal.returns
unfolding next_c
returns c =
    let a = c.args in
    rw (c.in-Some.ensures.0)
    (returned_edge
    (c.next.ensures.steps ∙ ap (λ (t : Summary). next_of a.words.now t a.sample) c.in-Some.ensures.1)
    c.give_edge.ensures)
