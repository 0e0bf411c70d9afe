-- Past the end by the difference is past it by the sum, since the sample is not before bit 0.
use Prim.Native.Nat.{◌+◌}
use native.Mathlib.Omega.{arith}
use borrow.Author.Tests.{le-ltb, lt-ltb}
use Rattle.bit_record.specs.Record.{position_at}
use Rattle.bit_record.proofs.position_at.Goals.{then-sample-origin-via-then-sample-origin, then-sample-origin-via-else-sample-origin+then-len-sample}
use Rattle.bit_record.proofs.position_at.Goals as goal

pub returns-then-sample-origin : goal.returns-then-sample-origin
unfolding position_at
returns-then-sample-origin c =
    let a = c.args in
    elim c.then-sample-origin.branch [
      | then-sample-origin-via-then-sample-origin w ↦ simp (lt-ltb _ _ w.if-sample-origin.true)
      | then-sample-origin-via-else-sample-origin+then-len-sample w ↦
          simp (le-ltb a.sample a.origin w.if-sample-origin.false, lt-ltb (a.origin + a.len) a.sample (omega (arith, w.if-sample-origin.false, w.if-len-sample.true)))
    ]

pub returns : goal.returns
unfolding position_at
returns c =
    let a = c.args in
    simp (le-ltb a.sample a.origin c.if-sample-origin.false, le-ltb (a.origin + a.len) a.sample (omega (arith, c.if-sample-origin.false, c.if-len-sample.false)))
