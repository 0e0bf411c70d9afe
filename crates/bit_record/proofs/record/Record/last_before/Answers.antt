-- What lies before the place in its word has the last (`word_last`); or it has none, and the words before it are searched.
use mathlib.Core.Path.{ap, ◌∙◌}
use Prim.Native.Nat.{◌*◌, ◌/◌, ◌%◌}
use native.Mathlib.Omega.{arith}
use Rattle.rank_sel.specs.Rank.{rank}
use Rattle.rank_sel.proofs.Step.{last_still}
use Rattle.bit_record.specs.Selects.{selects}
use Rattle.bit_record.proofs.Step.{word_empty, word_last}
use Rattle.bit_record.proofs.record.Record.last_before.Goals as goal

pub returns-then-word-ne0 : goal.returns-then-word-ne0
returns-then-word-ne0 c =
    let a = c.args in
    let f = selects a.self.now in
    word_last (a.to % 64) f (64 * (a.to / 64)) c.bits_before-word.result c.bits_before-word.ensures c.last_one.result a.to (omega arith)
    c.last_one.ensures (omega arith) (ap (rank f) (omega arith))

pub returns : goal.returns
returns c =
    let a = c.args in
    let f = selects a.self.now in
    let e = word_empty (a.to % 64) f (64 * (a.to / 64)) c.bits_before-word.result c.bits_before-word.ensures (omega arith) in
    c.last_within.ensures ∙ last_still f _ _ (omega arith) (e ∙ ap (rank f) (omega arith))
