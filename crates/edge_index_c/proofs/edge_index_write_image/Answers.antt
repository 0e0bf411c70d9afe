-- A summary with a polarity over 1 is turned down, and leaves the bytes; else what writing the summary as read leaves is left, and
-- the image's length goes out by `give`.
use mathlib.Core.Path.{refl, ap, ◌∙◌}
use lib.ListN.{length}
use Rattle.inventory.specs.declared.summary.Summary.{Summary}
use Rattle.index_image.specs.Image.{write_of, length_of, bytes_after}
use Rattle.edge_index_c.specs.Calls.{write_c}
use Rattle.edge_index_c.proofs.Returns.{returned_as}
use Rattle.edge_index_c.proofs.edge_index_write_image.Goals as goal

pub returns-in_default : goal.returns-in_default
unfolding write_c
returns-in_default c =
    rw (c.in_default.ensures) (record { returned = record { status = refl; out = refl }; image = refl })

pub returns : goal.returns
unfolding write_c
returns c =
    let a = c.args in
    let e = ap (λ (t : Summary). write_of t a.inventory.now a.spill.now (length a.bytes.now)) c.in-Some.ensures.1 in
    rw (c.in-Some.ensures.0)
    (record {
      returned = returned_as (c.write_image-told.ensures.written.told ∙ ap length_of e) c.give.ensures;
      image = c.write_image-told.ensures.written.bytes_are ∙ ap (λ o. bytes_after o a.bytes.now) e;
    })
