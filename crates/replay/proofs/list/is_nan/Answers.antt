-- Where the first test fails, so does the whole; where it holds, the second speaks for it.
use Rattle.std.proofs.Common.{eq-eqb, ne_eqb}
use Rattle.std.specs.Float.Ieee.{nan_bits}
use Rattle.replay.proofs.list.is_nan.Goals as goal

pub returns-then-bits-eq2047 : goal.returns-then-bits-eq2047
unfolding nan_bits
returns-then-bits-eq2047 c = rw (eq-eqb _ _ c.if-bits-eq2047.true)

pub returns-else-bits-eq2047 : goal.returns-else-bits-eq2047
unfolding nan_bits
returns-else-bits-eq2047 c = rw (ne_eqb _ _ c.if-bits-eq2047.false)
