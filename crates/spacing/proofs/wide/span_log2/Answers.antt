use Rattle.std.proofs.Common.{◌≡◌, ◌-◌, max, arith}
use Rattle.std.proofs.lemmas.Nat.{one_shl}
use Rattle.spacing.proofs.Span.{span_most, span_here, span_below}
use Rattle.spacing.proofs.wide.span_log2.Goals as goal

pub loop-l-init : goal.loop-l-init
loop-l-init c =
    let a = c.args in omega (arith, span_most a.num a.span a.len c.requires c.ranges.span.fits)

pub returns-then-l-num_bits : goal.returns-then-l-num_bits
returns-then-l-num_bits c =
    let a = c.args in
    let l = c.loop-l.l - 1 in
    let d : c.max-num_bits.result ≡ max 1 a.len = omega (arith, c.max-num_bits.ensures) in
    span_here a.num a.span a.len l (rw (one_shl l 128 (omega arith), d) at c.if-l-num_bits.true) (omega (arith, c.loop-l.invariant))

pub loop-l-preserved : goal.loop-l-preserved
loop-l-preserved c =
    let a = c.args in
    let l = c.loop-l.l - 1 in
    let d : c.max-num_bits.result ≡ max 1 a.len = omega (arith, c.max-num_bits.ensures) in
    let h = span_below a.num a.span a.len l (omega (arith, c.loop-l-test.true)) (rw (one_shl l 128 (omega arith), d) at c.if-l-num_bits.false) in
    omega (arith, h, c.loop-l-test.true)
