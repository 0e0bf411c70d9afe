use mathlib.Core.Path.{sym, ap, ◌∙◌}
use Prim.Native.Nat.{◌+◌, ◌-◌, ◌*◌}
use native.Mathlib.Omega.{arith}
use lib.ListN.{get_or}
use Rattle.index_image.specs.Bytes.{word_bytes, bytes_of, put_at}
use Rattle.index_image.proofs.Put.{put_none, put_eight, put_more}
use Rattle.index_image.proofs.words.write_words.Goals as goal

pub loop-i-init : goal.loop-i-init
unfolding bytes_of
loop-i-init c =
    let a = c.args in sym (put_none a.at a.bytes.now)

pub loop-i-preserved : goal.loop-i-preserved
loop-i-preserved c =
    let a = c.args in
    let l = c.loop-i in
    let at = a.at + 8 * l.i in
    let w = get_or a.cells.now l.i 0 in
    put_eight l.bytes c.copy_from_slice.new.self at (at + 8 - at) w (omega arith) (c.copy_from_slice.ensures.after ∙ c.to_le_bytes.ensures)
    ∙ ap (put_at at (word_bytes w)) l.invariant
    ∙ put_more a.at a.cells.now a.bytes.now l.i (omega arith) (omega arith)
