-- A summary with a polarity over 1 is turned down; else the entry's mark and its rank go out, or its refusal as its number.
use mathlib.Core.Path.{refl, sym, ap, ◌∙◌}
use Rattle.rank_sel.specs.Outcome.{outcome}
use Rattle.inventory.specs.declared.summary.Summary.{Summary}
use Rattle.read_inventory.specs.Jump.{hint_of}
use Rattle.edge_index_c.specs.Calls.{hint_c}
use Rattle.edge_index_c.proofs.Returns.{returned_yes, returned_no}
use Rattle.edge_index_c.proofs.edge_index_hint.Goals as goal

pub returns-in_default : goal.returns-in_default
unfolding hint_c
returns-in_default c =
    rw (c.in_default.ensures) (record { status = refl; out = refl })

pub returns-in-Ok : goal.returns-in-Ok
unfolding hint_c
returns-in-Ok c =
    let a = c.args in
    rw (c.in-Some.ensures.0)
    (returned_yes
    (sym (ap outcome c.in-Ok.is) ∙ c.hint.ensures.reads
    ∙ ap (λ (t : Summary). hint_of a.words.now t a.inventory.now a.spill.now a.rank) c.in-Some.ensures.1)
    refl)

pub returns-in-Err : goal.returns-in-Err
unfolding hint_c
returns-in-Err c =
    let a = c.args in
    rw (c.in-Some.ensures.0)
    (returned_no
    (sym (ap outcome c.in-Err.is) ∙ c.hint.ensures.reads
    ∙ ap (λ (t : Summary). hint_of a.words.now t a.inventory.now a.spill.now a.rank) c.in-Some.ensures.1)
    c.status.ensures)
