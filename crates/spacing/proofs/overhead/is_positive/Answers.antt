-- Above 0 it is positive where it is finite (`above_zero`); what is not above 0 is not positive.
use lib.Ieee.{of_bits}
use Rattle.std.proofs.Common.{◌∙◌}
use Rattle.spacing.proofs.Floats.{above_zero, not_above_zero}
use Rattle.spacing.proofs.overhead.is_positive.Goals as goal

pub returns-then-x : goal.returns-then-x
unfolding of_bits
returns-then-x c =
    c.is_finite.ensures.value ∙ above_zero _ c.if-x.true

pub returns-else-x : goal.returns-else-x
unfolding of_bits
returns-else-x c =
    c.if-x.false ∙ not_above_zero _ c.if-x.false
