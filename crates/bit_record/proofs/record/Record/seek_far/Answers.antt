use mathlib.Core.Path.{◌≡◌, ap, ◌∙◌}
use Prim.Native.Nat.{◌+◌, ◌-◌, ◌*◌, ◌/◌, ◌%◌, ◌^◌}
use native.Mathlib.Omega.{arith}
use lib.Count.{ones}
use Rattle.rank_sel.specs.Rank.{rank}
use Rattle.bit_record.specs.Selects.{selects}
use Rattle.bit_record.proofs.Selected.{count_between}
use Rattle.bit_record.proofs.Seek.{finds_none, finds_on, before_from, ones_before}
use Rattle.bit_record.proofs.record.Record.seek_far.Goals as goal

pub returns-then-len-from : goal.returns-then-len-from
returns-then-len-from c =
    let a = c.args in
    let r = a.self.now in
    finds_none r.polarity r.words.now r.len a.from a.k a.from (omega arith) (omega arith)

pub selected_word-requires : goal.selected_word-requires
selected_word-requires c =
    omega (arith, c.args.self.now.admitted.held)

pub overflow_add-remaining : goal.overflow_add-remaining
overflow_add-remaining c =
    omega (arith, c.count_ones.ensures.most)

pub loop-block-init : goal.loop-block-init
loop-block-init c =
    let a = c.args in
    let r = a.self.now in
    let w = c.selected_word.result in
    let f = selects r in
    let e : c.count_ones.result ≡ ones (w % 2 ^ (a.from % 64)) = c.count_ones.ensures.exact ∙ ap ones c.low_bits-skipped.ensures in
    let z : rank f (64 * (a.from / 64 + 8 * 0)) ≡ rank f (64 * (a.from / 64)) = ap (rank f) (omega arith) in
    omega (arith, z, ones_before f a.from (w % 2 ^ (a.from % 64)) (before_from f a.from w c.selected_word.ensures))

pub returns-then-remaining-ones : goal.returns-then-remaining-ones
returns-then-remaining-ones c =
    let a = c.args in
    let r = a.self.now in
    let l = c.loop-block in
    finds_on r.polarity r.words.now r.len a.from a.k (64 * (a.from / 64 + 8 * l.block)) l.remaining c.seek_words.result (omega arith)
    l.invariant c.seek_words.ensures

pub loop-block-preserved : goal.loop-block-preserved
loop-block-preserved c =
    let a = c.args in
    let r = a.self.now in
    let f = selects r in
    let i = a.from / 64 + 8 * c.loop-block.block in
    let n = count_between r.polarity r.words.now r.len _ _ _ (omega arith) (omega (arith, c.loop-block.auto.block-end)) r.admitted.held
    c.count_words-ones.ensures in
    let e : rank f (64 * (a.from / 64 + 8 * (c.loop-block.block + 1))) ≡ rank f (64 * (i + 8)) = ap (rank f) (omega arith) in
    omega (arith, e, n)

pub returns : goal.returns
returns c =
    let a = c.args in
    let r = a.self.now in
    let l = c.loop-block in
    let f = selects r in
    let blocks = (r.len / 64 - a.from / 64) / 8 in
    let e : rank f (64 * (a.from / 64 + 8 * blocks)) ≡ rank f (64 * (a.from / 64 + 8 * l.block)) = ap (rank f) (omega arith) in
    finds_on r.polarity r.words.now r.len a.from a.k _ l.remaining c.seek_words-2.result (omega arith) (omega (arith, e, l.invariant))
    c.seek_words-2.ensures
