-- The rest of the word in hand has the position, or passes its ones: then the words after it are sought for what is left.
use Rattle.std.specs.Prelude.{Some}
use mathlib.Core.Path.{◌≡◌, ap, subst}
use Prim.Native.Nat.{ℕ, ◌+◌, ◌-◌, ◌*◌, ◌/◌, ◌%◌, ◌^◌, ◌≤◌}
use native.Mathlib.Omega.{arith}
use Rattle.rank_sel.specs.Rank.{rank}
use Rattle.rank_sel.specs.Seek.{Sought}
use Rattle.select_in_word.specs.Select.{OneAbove}
use Rattle.select_in_word.proofs.Holds.{holds_from}
use Rattle.select_in_word.proofs.Select.{above_shr}
use Rattle.bit_record.specs.Record.{Finds}
use Rattle.bit_record.specs.Selects.{selects}
use Rattle.bit_record.proofs.Seek.{finds_on, finds_one, word_found, word_passed}
use Rattle.bit_record.proofs.record.Record.seek_with.Goals.{In-Ok, In-Err}
use Rattle.bit_record.proofs.record.Record.seek_with.Goals as goal

-- it has the position
module _ (c : In-Ok) where
  inside : let a = c.args in
      Sought (selects a.self.now) (64 - a.from % 64) a.from a.k (a.from + c.in-Ok.one.position)
      × OneAbove a.word c.in-Ok.one.remaining (a.from % 64 + c.in-Ok.one.position)
  inside =
      let a = c.args in
      let f = selects a.self.now in
      let s = word_found (64 - a.from % 64) f a.from (a.word / 2 ^ (a.from % 64)) a.k (omega arith) (holds_from f a.from a.word c.requires.1) c.in-Ok.one c.in-Ok.ensures in
      (s.0, above_shr a.word (a.from % 64) c.in-Ok.one.remaining c.in-Ok.one.position c.ranges.word.fits (omega arith) s.1)

pub overflow_add-position : goal.overflow_add-position
overflow_add-position c =
    omega (arith, (inside (goal.at.overflow_add-position c).In-Ok).1.low, c.requires.0, c.args.self.now.admitted.short)

pub returns-in-Ok : goal.returns-in-Ok
returns-in-Ok c =
    let a = c.args in
    let r = a.self.now in
    let f = selects r in
    let x = c.in-Ok.one in
    let i = a.from / 64 in
    let s = inside (goal.at.returns-in-Ok c).In-Ok in
    let d : 64 * i + (a.from % 64 + x.position) ≡ a.from + x.position = omega arith in
    let e : rank f (64 * i + (a.from % 64 + x.position)) ≡ rank f (a.from + x.position) = ap (rank f) d in
    subst
    (λ (q : ℕ). Finds f (r.len - a.from) a.from a.k (Some (record { position = q; index = i; word = a.word; remaining = x.remaining }))) d
    (finds_one r.polarity r.words.now r.len a.from a.k i a.word (record { position = a.from % 64 + x.position; remaining = x.remaining })
    c.requires.1 s.1 (omega arith) (omega (arith, e, s.0.before)))

-- it passes its ones
module _ (c : In-Err) where
  passed : let a = c.args in
      (c.in-Err.ones ≤ a.k) × (rank (selects a.self.now) (a.from + (64 - a.from % 64)) ≡ rank (selects a.self.now) a.from + c.in-Err.ones)
  passed =
      let a = c.args in
      let f = selects a.self.now in
      word_passed (64 - a.from % 64) f a.from (a.word / 2 ^ (a.from % 64)) a.k (omega arith) (holds_from f a.from a.word c.requires.1) c.in-Err.ones c.in-Err.ensures

pub overflow_sub-k : goal.overflow_sub-k
overflow_sub-k c =
    (passed (goal.at.overflow_sub-k c).In-Err).0

pub returns-in-Err : goal.returns-in-Err
returns-in-Err c =
    let a = c.args in
    let r = a.self.now in
    let f = selects r in
    let p = passed (goal.at.returns-in-Err c).In-Err in
    let e : rank f (64 * (a.from / 64 + 1)) ≡ rank f (a.from + (64 - a.from % 64)) = ap (rank f) (omega arith) in
    finds_on r.polarity r.words.now r.len a.from a.k _ _ c.seek_words.result c.requires.0
    (omega (arith, e, p.0, p.1)) c.seek_words.ensures
