use native.Mathlib.Omega.{arith}
use Rattle.bit_record.proofs.Selected.{words_more, words_most}
use Rattle.bit_record.proofs.count_words.Goals as goal

pub overflow_add-total : goal.overflow_add-total
overflow_add-total c =
    let a = c.args in
    let l = c.loop-word in
    omega (arith, c.requires, c.count_ones-total.ensures.most, words_most a.polarity a.words.now 0 l.word-index l.total l.invariant)

pub loop-word-preserved : goal.loop-word-preserved
loop-word-preserved c =
    let a = c.args in
    let l = c.loop-word in
    rw (c.count_ones-total.ensures.exact, c.complement_zeros.ensures)
    (words_more a.polarity a.words.now 0 l.word-index l.total l.word-index (omega arith) l.invariant (omega (arith, c.type_inv.words l.word-index)))
