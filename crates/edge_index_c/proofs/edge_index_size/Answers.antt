-- An unknown code is turned down; else the entry's two counts go out, or its refusal as its number.
use mathlib.Core.Path.{refl, sym, ap, ap₂, ◌∙◌}
use Rattle.rank_sel.specs.Outcome.{outcome}
use Rattle.build_inventory.specs.Build.{size_of}
use Rattle.edge_index_c.specs.Calls.{size_c}
use Rattle.edge_index_c.proofs.Returns.{returned_yes, returned_no}
use Rattle.edge_index_c.proofs.edge_index_size.Goals as goal

pub returns-in_default : goal.returns-in_default
unfolding size_c
returns-in_default c =
    rw (c.in_default.ensures) (record { status = refl; out = refl })

pub returns-in-Ok : goal.returns-in-Ok
unfolding size_c
returns-in-Ok c =
    let a = c.args in
    rw (c.in-Some.ensures.0)
    (returned_yes
    (sym (ap outcome c.in-Ok.is) ∙ c.size.ensures.sized
    ∙ ap₂ (size_of a.words.now a.len) c.in-Some.ensures.1 c.in-Some.ensures.2)
    refl)

pub returns-in-Err : goal.returns-in-Err
unfolding size_c
returns-in-Err c =
    let a = c.args in
    rw (c.in-Some.ensures.0)
    (returned_no
    (sym (ap outcome c.in-Err.is) ∙ c.size.ensures.sized
    ∙ ap₂ (size_of a.words.now a.len) c.in-Some.ensures.1 c.in-Some.ensures.2)
    c.status.ensures)
