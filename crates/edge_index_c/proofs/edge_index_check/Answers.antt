-- An unknown code, of the call or the summary, is turned down; else the entry's verdict for what they say goes out by `give`.
use mathlib.Core.Path.{refl, ap, ap₂, ◌∙◌}
use Rattle.bit_record.specs.declared.Polarity.{Polarity}
use Rattle.spacing.specs.declared.Choice.{Choice}
use Rattle.inventory.specs.Numbers.{polarity_at}
use Rattle.inventory.specs.declared.summary.Summary.{Summary}
use Rattle.build_inventory.specs.Build.{check_of}
use Rattle.edge_index_c.specs.Calls.{check_c, verdict_of}
use Rattle.edge_index_c.specs.Codes.{choice_at}
use Rattle.edge_index_c.proofs.Returns.{returned_as}
use Rattle.edge_index_c.proofs.edge_index_check.Goals as goal

pub returns-in_default : goal.returns-in_default
unfolding check_c
returns-in_default c =
    rw (c.in_default.ensures) (record { status = refl; out = refl })

pub returns-in_default-read : goal.returns-in_default-read
unfolding check_c
returns-in_default-read c =
    rw (c.in-Some.ensures.0, c.in_default-read.ensures)
    (record { status = refl; out = refl })

pub returns : goal.returns
unfolding check_c
returns c =
    let a = c.args in
    let told = c.check-told.ensures.checked
    ∙ ap₂
    (λ (p : Polarity) (k : Choice). check_of a.words.now a.len a.origin p k c.in-Some-read.summary a.inventory.now
    a.spill.now)
    c.in-Some.ensures.1 c.in-Some.ensures.2
    ∙ ap
    (λ (t : Summary). check_of a.words.now a.len a.origin (polarity_at a.polarity) (choice_at a.kind a.value a.percentage a.log2)
    t a.inventory.now a.spill.now)
    c.in-Some-read.ensures.1 in
    rw (c.in-Some.ensures.0, c.in-Some-read.ensures.0)
    (returned_as (c.verdict.ensures ∙ ap verdict_of told) c.give.ensures)
