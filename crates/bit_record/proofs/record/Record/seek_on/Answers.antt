-- The ranks at the position, behind it and at its word's end tell how many selected bits are taken off either way.
use mathlib.Core.Path.{◌≡◌, ap}
use mathlib.Core.Logic.{⊎_elim}
use Prim.Native.Nat.{suc, ◌+◌, ◌*◌, ◌≤◌, ◌<◌}
use native.Mathlib.Omega.{arith}
use Rattle.std.proofs.lemmas.Bool.{cases_lt}
use Rattle.rank_sel.specs.Rank.{rank}
use Rattle.rank_sel.proofs.Rank.{rank_lt, rank_mono, rank_one}
use Rattle.bit_record.specs.Record.{FoundIn, found_by}
use Rattle.bit_record.specs.Selects.{selects}
use Rattle.bit_record.specs.declared.record.Record.{Record}
use Rattle.bit_record.specs.declared.seeks.Found.{Found}
use Rattle.bit_record.proofs.Seek.{finds_on, finds_one, found_one, one_in}
use Rattle.bit_record.proofs.Selected.{selected_lt}
use Rattle.bit_record.proofs.record.Record.seek_on.Goals as goal

module _ (r : Record) (x : Found) (s : FoundIn (selects r) x) where
  -- what remains, with the bit itself, is what the word has from there on
  to_end : rank (selects r) (64 * x.index + 64) ≡ rank (selects r) x.position + x.remaining + 1
  to_end =
      omega (arith, s.remaining, s.index, rank_one (selects r) x.position s.here, rank_mono (selects r) (suc x.position) (64 * x.index + 64) (omega arith))

  low : x.position < r.len
  low = selected_lt r.polarity r.words.now r.len x.position s.here

pub returns-then-last-by : goal.returns-then-last-by
returns-then-last-by c =
    let a = c.args in
    let r = a.self.now in
    let x = a.last in
    let f = selects r in
    let e : rank f (64 * (x.index + 1)) ≡ rank f (64 * x.index + 64) = ap (rank f) (omega arith) in
    finds_on r.polarity r.words.now r.len x.position a.by (64 * (x.index + 1)) _ c.seek_words.result
    (low r x c.requires) (omega (arith, e, to_end r x c.requires, c.if-last-by.true)) c.seek_words.ensures

pub one_on-requires : goal.one_on-requires
one_on-requires c =
    (one_in (selects c.args.self.now) c.args.last c.requires, omega (arith, c.if-last-by.false))

pub found_in-requires : goal.found_in-requires
found_in-requires c =
    let r = c.args.self.now in
    (omega (arith, c.requires.index, low r c.args.last c.requires, r.admitted.short), c.one_on.ensures.0.low)

pub returns : goal.returns
returns c =
    let a = c.args in
    let r = a.self.now in
    let x = a.last in
    let f = selects r in
    let y = c.one_on.result in
    let o = c.one_on.ensures.0 in
    let s = found_one f x.index x.word y c.requires.word o in
    let z = found_by x.index x.word y in
    let b = to_end r x c.requires in
    let d = to_end r z s in
    let e : rank f x.position ≤ rank f z.position = omega (arith, b, d, c.one_on.ensures.1, c.if-last-by.false) in
    let l : x.position ≤ z.position =
    ⊎_elim (λ (h : z.position < x.position). absurd (omega (arith, e, rank_lt f z.position x.position s.here h))) (λ h. h) (cases_lt z.position x.position) in
    rw c.found_in.ensures
    (finds_one r.polarity r.words.now r.len x.position a.by x.index x.word y c.requires.word o l
    (omega (arith, b, d, c.one_on.ensures.1, c.if-last-by.false)))
