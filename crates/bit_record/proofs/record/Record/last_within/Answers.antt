use mathlib.Core.Path.{◌≡◌, ap, ◌∙◌}
use Prim.Native.Nat.{◌+◌, ◌-◌, ◌*◌}
use native.Mathlib.Omega.{arith}
use Rattle.rank_sel.specs.Rank.{rank}
use Rattle.rank_sel.proofs.Step.{last_still}
use Rattle.bit_record.specs.Selects.{selects}
use Rattle.bit_record.proofs.Selected.{count_between}
use Rattle.bit_record.proofs.record.Record.last_within.Goals as goal

pub returns-then-count_words-gt0 : goal.returns-then-count_words-gt0
returns-then-count_words-gt0 c =
    c.last_word.ensures ∙ last_still (selects c.args.self.now) _ _ (omega arith) c.loop-block.invariant

pub loop-block-preserved : goal.loop-block-preserved
loop-block-preserved c =
    let a = c.args in
    let r = a.self.now in
    let f = selects r in
    let n = count_between r.polarity r.words.now r.len _ _ _ (omega arith) (omega arith) r.admitted.held c.count_words.ensures in
    let i = a.n - 8 * c.loop-block.block in
    let e : rank f (64 * (a.n - 8 * (c.loop-block.block + 1))) ≡ rank f (64 * (i - 8)) = ap (rank f) (omega arith) in
    omega (arith, e, n, c.if-count_words-gt0.false, c.loop-block.invariant)

pub returns : goal.returns
returns c =
    let f = selects c.args.self.now in
    c.last_word-2.ensures
    ∙ last_still f _ _ (omega arith) (ap (rank f) (omega (arith, c.loop-block-test.false, c.loop-block.auto.block-end)) ∙ c.loop-block.invariant)
