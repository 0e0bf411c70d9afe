-- A polarity over 1 is turned down; else the entry's answer for what the code says goes out by `give`.
use mathlib.Core.Path.{refl, ap, ◌∙◌}
use borrow.Author.Tests.{lt-ltb, le-ltb}
use Rattle.bit_record.specs.Record.{count_of}
use Rattle.edge_index_c.specs.Calls.{count_c}
use Rattle.edge_index_c.proofs.Returns.{returned_as}
use Rattle.edge_index_c.proofs.edge_index_count.Goals as goal

pub returns-then-polarity-gt1 : goal.returns-then-polarity-gt1
unfolding count_c
returns-then-polarity-gt1 c =
    rw (lt-ltb _ _ c.if-polarity-gt1.true) (record { status = refl; out = refl })

pub returns : goal.returns
unfolding count_c
returns c =
    let a = c.args in
    rw (le-ltb _ _ c.if-polarity-gt1.false)
    (returned_as (c.count.ensures.counted ∙ ap (count_of a.words.now a.len) c.polarity_at.ensures)
    c.give.ensures)
