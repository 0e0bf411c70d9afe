use mathlib.Core.Path.{◌≡◌, ap}
use Prim.Native.Nat.{◌+◌, ◌*◌, ◌/◌, ◌≤◌}
use native.Mathlib.Omega.{arith}
use Rattle.rank_sel.specs.Rank.{rank}
use Rattle.rank_sel.specs.Seek.{Sought}
use Rattle.select_in_word.specs.Holds.{Holds}
use Rattle.select_in_word.specs.Select.{OneAbove}
use Rattle.bit_record.specs.Selects.{selects}
use Rattle.bit_record.proofs.Seek.{finds_none, finds_one, finds_past, word_found, word_passed}
use Rattle.bit_record.proofs.Selected.{holds_full}
use Rattle.bit_record.proofs.record.Record.seek_words.Goals.{After-complement_zeros-word, In-Err, In-Ok}
use Rattle.bit_record.proofs.record.Record.seek_words.Goals as goal

-- word i is whole
module _ (c : After-complement_zeros-word) where
  held : Holds 64 (selects c.args.self.now) (64 * c.loop-i.i) c.complement_zeros-word.result
  held =
      let r = c.args.self.now in
      rw c.complement_zeros-word.ensures
      (holds_full r.polarity r.words.now r.len c.loop-i.i (omega (arith, c.type_inv.self)) (omega (arith, c.loop-i-test.true)))

-- it has the position
module _ (c : In-Ok) where
  inside : let i = c.loop-i.i in
      Sought (selects c.args.self.now) 64 (64 * i) c.loop-i.left (64 * i + c.in-Ok.one.position)
      × OneAbove c.complement_zeros-word.result c.in-Ok.one.remaining c.in-Ok.one.position
  inside =
      word_found 64 (selects c.args.self.now) (64 * c.loop-i.i) c.complement_zeros-word.result c.loop-i.left (omega arith)
      (held (goal.at.In-Ok c).After-complement_zeros-word) c.in-Ok.one c.in-Ok.ensures

pub found_in-requires : goal.found_in-requires
found_in-requires c =
    (omega (arith, c.loop-i-test.true, c.args.self.now.admitted.short), (inside (goal.at.found_in-requires c).In-Ok).1.low)

pub returns-in-Ok : goal.returns-in-Ok
returns-in-Ok c =
    let a = c.args in
    let r = a.self.now in
    let s = inside (goal.at.returns-in-Ok c).In-Ok in
    rw c.found_in.ensures
    (finds_one r.polarity r.words.now r.len (64 * a.first) a.k c.loop-i.i c.complement_zeros-word.result c.in-Ok.one
    (held (goal.at.returns-in-Ok c).After-complement_zeros-word) s.1 (omega arith) (omega (arith, s.0.before, c.loop-i.invariant)))

-- it passes its ones
module _ (c : In-Err) where
  passed : (c.in-Err.ones ≤ c.loop-i.left)
      × (rank (selects c.args.self.now) (64 * c.loop-i.i + 64) ≡ rank (selects c.args.self.now) (64 * c.loop-i.i) + c.in-Err.ones)
  passed =
      word_passed 64 (selects c.args.self.now) (64 * c.loop-i.i) c.complement_zeros-word.result c.loop-i.left (omega arith)
      (held (goal.at.In-Err c).After-complement_zeros-word) c.in-Err.ones c.in-Err.ensures

pub overflow_sub-left : goal.overflow_sub-left
overflow_sub-left c =
    (passed (goal.at.overflow_sub-left c).In-Err).0

pub loop-i-preserved : goal.loop-i-preserved
loop-i-preserved c =
    let f = selects c.args.self.now in
    let i = c.loop-i.i in
    let p = passed (goal.at.loop-i-preserved c).In-Err in
    let e : rank f (64 * (i + 1)) ≡ rank f (64 * i + 64) = ap (rank f) (omega arith) in
    omega (arith, e, p.0, p.1, c.loop-i.invariant)

pub returns-then-full-first : goal.returns-then-full-first
returns-then-full-first c =
    let a = c.args in
    let r = a.self.now in
    finds_none r.polarity r.words.now r.len (64 * a.first) a.k (64 * a.first) (omega (arith, c.if-full-first.true)) (omega arith)

pub returns : goal.returns
returns c =
    let a = c.args in
    let r = a.self.now in
    let f = selects r in
    let i = c.loop-i.i in
    let e : rank f (64 * (r.len / 64)) ≡ rank f (64 * i) = ap (rank f) (omega (arith, c.loop-i-test.false, c.loop-i.auto.i-end, c.if-full-first.false)) in
    finds_past r.polarity r.words.now r.len (64 * a.first) a.k (64 * (r.len / 64)) c.loop-i.left c.seek_last.result
    (omega (arith, c.if-full-first.false)) (omega (arith, e, c.loop-i.invariant)) c.seek_last.ensures
