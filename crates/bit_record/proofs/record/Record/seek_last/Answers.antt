-- The last word has all selected positions from its first one on; where all words are whole there are none.
use Prim.Native.Nat.{◌+◌, ◌*◌, ◌/◌}
use native.Mathlib.Omega.{arith}
use Rattle.rank_sel.specs.Seek.{Sought}
use Rattle.select_in_word.specs.Select.{OneAbove}
use Rattle.bit_record.specs.Selects.{selects}
use Rattle.bit_record.proofs.Seek.{finds_none, finds_one, word_found, word_passed}
use Rattle.bit_record.proofs.record.Record.seek_last.Goals.{In-Ok}
use Rattle.bit_record.proofs.record.Record.seek_last.Goals as goal

pub returns-then-self-eq0 : goal.returns-then-self-eq0
returns-then-self-eq0 c =
    let a = c.args in
    let r = a.self in
    finds_none r.polarity r.words.now r.len (64 * (r.len / 64)) a.k (64 * (r.len / 64)) (omega (arith, c.if-self-eq0.true)) (omega arith)

pub selected_word-word-requires : goal.selected_word-word-requires
selected_word-word-requires c =
    omega (arith, c.args.self.admitted.held)

-- the word has it
module _ (c : In-Ok) where
  inside : let a = c.args in
      Sought (selects a.self) 64 (64 * (a.self.len / 64)) a.k (64 * (a.self.len / 64) + c.in-Ok.one.position)
      × OneAbove c.selected_word-word.result c.in-Ok.one.remaining c.in-Ok.one.position
  inside =
      let a = c.args in
      word_found 64 (selects a.self) (64 * (a.self.len / 64)) c.selected_word-word.result a.k (omega arith) c.selected_word-word.ensures c.in-Ok.one
      c.in-Ok.ensures

pub found_in-requires : goal.found_in-requires
found_in-requires c =
    let o = (inside (goal.at.found_in-requires c).In-Ok).1 in
    (omega (arith, c.args.self.admitted.short), o.low)

pub returns-in-Ok : goal.returns-in-Ok
returns-in-Ok c =
    let a = c.args in
    let r = a.self in
    let s = inside (goal.at.returns-in-Ok c).In-Ok in
    rw c.found_in.ensures
    (finds_one r.polarity r.words.now r.len (64 * (a.self.len / 64)) a.k (a.self.len / 64) c.selected_word-word.result c.in-Ok.one c.selected_word-word.ensures s.1
    (omega arith) s.0.before)

pub returns-in-Err : goal.returns-in-Err
returns-in-Err c =
    let a = c.args in
    let r = a.self in
    let w = c.selected_word-word.result in
    let p = word_passed 64 (selects r) (64 * (a.self.len / 64)) w a.k (omega arith) c.selected_word-word.ensures c.in-Err.field-0 c.in-Err.ensures in
    finds_none r.polarity r.words.now r.len (64 * (a.self.len / 64)) a.k (64 * (a.self.len / 64) + 64) (omega arith) (omega (arith, p.0, p.1))
