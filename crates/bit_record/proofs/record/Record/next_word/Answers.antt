use mathlib.Core.Path.{◌≡◌, ap, ◌∙◌, sym}
use Prim.Native.Nat.{◌*◌, ◌/◌}
use native.Mathlib.Omega.{arith}
use Rattle.std.proofs.Common.{rules}
use Rattle.rank_sel.specs.Rank.{rank}
use Rattle.rank_sel.specs.Step.{next_from}
use Rattle.rank_sel.proofs.Step.{next_still}
use Rattle.select_in_word.specs.Holds.{Holds}
use Rattle.bit_record.specs.Record.{found}
use Rattle.bit_record.specs.Selects.{selects}
use Rattle.bit_record.proofs.Seek.{record_at, record_none, word_sought}
use Rattle.bit_record.proofs.Selected.{holds_full}
use Rattle.bit_record.proofs.Step.{word_empty}
use Rattle.bit_record.proofs.record.Record.next_word.Goals.{After-complement_zeros-word, After-seek_last}
use Rattle.bit_record.proofs.record.Record.next_word.Goals as goal

-- word i is whole
module _ (c : After-complement_zeros-word) where
  held : Holds 64 (selects c.args.self.now) (64 * c.loop-i.i) c.complement_zeros-word.result
  held =
      let r = c.args.self.now in
      rw c.complement_zeros-word.ensures
      (holds_full r.polarity r.words.now r.len c.loop-i.i (search rules) (omega (arith, c.loop-i-test.true)))

pub returns-then-word-ne0 : goal.returns-then-word-ne0
returns-then-word-ne0 c =
    let r = c.args.self.now in
    let s = word_sought 64 (selects r) (64 * c.loop-i.i) c.complement_zeros-word.result 0 (omega arith)
    (held (goal.at.returns-then-word-ne0 c).After-complement_zeros-word) c.first_one.result c.first_one.ensures in
    record_at r.polarity r.words.now r.len _ 0 _ (omega arith) s.here (omega (arith, s.before, c.loop-i.invariant))

pub loop-i-preserved : goal.loop-i-preserved
loop-i-preserved c =
    let f = selects c.args.self.now in
    c.loop-i.invariant
    ∙ word_empty 64 f (64 * c.loop-i.i) c.complement_zeros-word.result (held (goal.at.loop-i-preserved c).After-complement_zeros-word) (omega arith)
    ∙ ap (rank f) (omega arith)

pub returns-then-full-first : goal.returns-then-full-first
returns-then-full-first c =
    let r = c.args.self.now in
    let from = 64 * c.args.first in
    record_none r.polarity r.words.now r.len from 0 from (omega (arith, c.if-full-first.true)) (omega arith)

-- what is left is the last word, where it is not whole
module _ (c : After-seek_last) where
  last : let r = c.args.self.now in found c.seek_last.result ≡ next_from (selects r) r.len (64 * c.args.first)
  last =
      let r = c.args.self.now in
      let f = selects r in
      c.seek_last.ensures.position
      ∙ sym (next_still f r.len (64 * c.args.first) (64 * (r.len / 64)) (omega (arith, c.if-full-first.false))
      (c.loop-i.invariant ∙ ap (rank f) (omega (arith, c.loop-i-test.false, c.loop-i.auto.i-end, c.if-full-first.false))))

pub returns-in-Some : goal.returns-in-Some
returns-in-Some c =
    sym (ap found c.in-Some.is) ∙ last (goal.at.returns-in-Some c).After-seek_last

pub returns-in-None : goal.returns-in-None
returns-in-None c =
    sym (ap found c.in-None.is) ∙ last (goal.at.returns-in-None c).After-seek_last
