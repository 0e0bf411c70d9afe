-- An unknown code is turned down; else the entry's plan goes out as a summary's nine numbers, or its refusal as its own.
use mathlib.Core.Path.{refl, ap, ap₂, ◌∙◌}
use Rattle.rank_sel.specs.Outcome.{Outcome, answer, and_then}
use Rattle.inventory.specs.Numbers.{numbers_of}
use Rattle.spacing.specs.Spacing.{plan_of}
use Rattle.spacing.specs.declared.Parameters.{Parameters}
use Rattle.edge_index_c.specs.Calls.{plan_c}
use Rattle.edge_index_c.specs.Codes.{uncounted}
use Rattle.edge_index_c.proofs.Returns.{mapped, returned_as}
use Rattle.edge_index_c.proofs.edge_index_plan.Goals as goal

pub returns-in_default : goal.returns-in_default
unfolding plan_c
returns-in_default c =
    rw (c.in_default.ensures) (record { status = refl; out = refl })

pub returns : goal.returns
unfolding plan_c
returns c =
    let a = c.args in
    rw (c.in-Some.ensures.0)
    (returned_as
    (mapped (λ p. numbers_of (uncounted p)) _ _ c.map.ensures.cases
    ∙ ap (λ (o : Outcome Parameters). and_then o (λ p. answer (numbers_of (uncounted p))))
    (c.plan-told.ensures.planned ∙ ap₂ (plan_of a.words.now a.len) c.in-Some.ensures.1 c.in-Some.ensures.2))
    c.give.ensures)
