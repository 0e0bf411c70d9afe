-- A summary with a polarity over 1 is turned down; else the entry's answer for the summary as read goes out by `give`.
use mathlib.Core.Path.{refl, ap, ◌∙◌}
use Rattle.inventory.specs.declared.summary.Summary.{Summary}
use Rattle.read_inventory.specs.Jump.{select_of}
use Rattle.edge_index_c.specs.Calls.{select_c}
use Rattle.edge_index_c.proofs.Returns.{returned_as}
use Rattle.edge_index_c.proofs.edge_index_select.Goals as goal

pub returns-in_default : goal.returns-in_default
unfolding select_c
returns-in_default c =
    rw (c.in_default.ensures) (record { status = refl; out = refl })

pub returns : goal.returns
unfolding select_c
returns c =
    let a = c.args in
    rw (c.in-Some.ensures.0)
    (returned_as
    (c.select.ensures.reads ∙ ap (λ (t : Summary). select_of a.words.now t a.inventory.now a.spill.now a.rank)
    c.in-Some.ensures.1)
    c.give.ensures)
