-- A summary with a polarity over 1 is turned down, and leaves the places; else the list for the summary as read leaves them, and
-- its total goes out by `give`.
use mathlib.Core.Path.{refl, ap, ◌∙◌}
use lib.ListN.{length}
use Rattle.inventory.specs.declared.summary.Summary.{Summary}
use Rattle.select_list.specs.List.{list_of, places_after, total_of}
use Rattle.edge_index_c.specs.Calls.{list_c}
use Rattle.edge_index_c.proofs.Returns.{returned_as}
use Rattle.edge_index_c.proofs.edge_index_select_list.Goals as goal

pub returns-in_default : goal.returns-in_default
unfolding list_c
returns-in_default c =
    rw (c.in_default.ensures) (record { returned = record { status = refl; out = refl }; places = refl })

pub returns : goal.returns
unfolding list_c
returns c =
    let a = c.args in
    let e = ap (λ (t : Summary). list_of a.words.now t a.inventory.now a.spill.now a.ranks.now (length a.places.now))
    c.in-Some.ensures.1 in
    rw (c.in-Some.ensures.0)
    (record {
      returned = returned_as (c.select_list-told.ensures.total ∙ ap total_of e) c.give.ensures;
      places = c.select_list-told.ensures.places ∙ ap (λ o. places_after o a.places.now) e;
    })
