-- The rest of the word has the position; or it has none, and the words after it are sought.
use mathlib.Core.Path.{ap, ◌∙◌, sym}
use Prim.Native.Nat.{◌+◌, ◌-◌, ◌/◌, ◌%◌, ◌^◌}
use native.Mathlib.Omega.{arith}
use Rattle.rank_sel.specs.Rank.{rank}
use Rattle.rank_sel.proofs.Step.{next_still}
use Rattle.select_in_word.proofs.Holds.{holds_from}
use Rattle.bit_record.specs.Selects.{selects}
use Rattle.bit_record.proofs.Seek.{record_at, record_none, word_sought}
use Rattle.bit_record.proofs.Step.{word_empty}
use Rattle.bit_record.proofs.record.Record.next_from.Goals as goal

pub returns-then-self-from : goal.returns-then-self-from
returns-then-self-from c =
    let a = c.args in
    let r = a.self.now in
    record_none r.polarity r.words.now r.len a.from 0 a.from c.if-self-from.true (omega arith)

pub returns-then-rest-ne0 : goal.returns-then-rest-ne0
returns-then-rest-ne0 c =
    let a = c.args in
    let r = a.self.now in
    let w = c.selected_word-word.result in
    let s = word_sought (64 - a.from % 64) (selects r) a.from (w / 2 ^ (a.from % 64)) 0 (omega arith)
    (holds_from (selects r) a.from w c.selected_word-word.ensures) c.first_one.result c.first_one.ensures in
    record_at r.polarity r.words.now r.len a.from 0 (a.from + c.first_one.result) s.low s.here s.before

pub returns : goal.returns
returns c =
    let a = c.args in
    let r = a.self.now in
    let f = selects r in
    let w = c.selected_word-word.result in
    let e = word_empty (64 - a.from % 64) f a.from (w / 2 ^ (a.from % 64)) (holds_from f a.from w c.selected_word-word.ensures) (omega arith) in
    c.next_past.ensures ∙ sym (next_still f r.len a.from _ (omega arith) (e ∙ ap (rank f) (omega arith)))
