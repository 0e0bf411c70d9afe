-- Past the end there is none; else the word is read, and `seek_with` says.
use native.Mathlib.Omega.{arith}
use Rattle.bit_record.proofs.Seek.{finds_none}
use Rattle.bit_record.proofs.record.Record.seek_from.Goals as goal

pub returns-then-self-from : goal.returns-then-self-from
returns-then-self-from c =
    let a = c.args in
    let r = a.self.now in
    finds_none r.polarity r.words.now r.len a.from a.k a.from (omega (arith, c.if-self-from.true)) (omega arith)
