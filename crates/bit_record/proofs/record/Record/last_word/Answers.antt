use mathlib.Core.Path.{◌≡◌, ap, ◌∙◌, sym}
use Prim.Native.Nat.{◌+◌, ◌-◌, ◌*◌}
use native.Mathlib.Omega.{arith}
use Rattle.std.proofs.Common.{rules}
use Rattle.rank_sel.specs.Rank.{rank}
use Rattle.rank_sel.proofs.Rank.{rank-zero}
use Rattle.rank_sel.proofs.Step.{last_empty}
use Rattle.select_in_word.specs.Holds.{Holds}
use Rattle.bit_record.specs.Selects.{selects}
use Rattle.bit_record.proofs.Selected.{holds_full}
use Rattle.bit_record.proofs.Step.{word_empty, word_last}
use Rattle.bit_record.proofs.record.Record.last_word.Goals.{After-complement_zeros-word}
use Rattle.bit_record.proofs.record.Record.last_word.Goals as goal

module _ (c : After-complement_zeros-word) where
  held : Holds 64 (selects c.args.self.now) (64 * (c.loop-i.i - 1)) c.complement_zeros-word.result
  held =
      let r = c.args.self.now in
      rw c.complement_zeros-word.ensures
      (holds_full r.polarity r.words.now r.len (c.loop-i.i - 1) (search rules) (omega arith))

  -- its end has the rank of n words
  end : let f = selects c.args.self.now in rank f (64 * (c.loop-i.i - 1) + 64) ≡ rank f (64 * c.args.n)
  end = ap (rank (selects c.args.self.now)) (omega arith) ∙ c.loop-i.invariant

pub returns-then-word-ne0 : goal.returns-then-word-ne0
returns-then-word-ne0 c =
    let at = (goal.at.returns-then-word-ne0 c).After-complement_zeros-word in
    let a = c.args in
    word_last 64 (selects a.self.now) (64 * (c.loop-i.i - 1)) c.complement_zeros-word.result (held at) c.last_one.result (64 * a.n)
    (omega arith) c.last_one.ensures (omega arith) (end at)

pub loop-i-preserved : goal.loop-i-preserved
loop-i-preserved c =
    let at = (goal.at.loop-i-preserved c).After-complement_zeros-word in
    word_empty 64 (selects c.args.self.now) (64 * (c.loop-i.i - 1)) c.complement_zeros-word.result (held at) (omega arith) ∙ end at

pub returns : goal.returns
returns c =
    let a = c.args in
    let f = selects a.self.now in
    let z : rank f (64 * c.loop-i.i) ≡ rank f 0 = ap (rank f) (omega arith) in
    sym (last_empty f (64 * a.n) (omega (arith, z, c.loop-i.invariant, rank-zero f)))
