-- The power is within the largest M, so that all fits and the first number is a float exactly (the check finds this); what the calls
-- return makes the definition.
use Rattle.std.proofs.Common.{◌∙◌}
use lib.Ieee.{of_bits, of_int}
use Rattle.spacing.specs.Spacing.{overhead_target, overhead_span}
use Rattle.spacing.proofs.overhead.target_span_from_overhead.Goals as goal

pub returns : goal.returns
unfolding overhead_span overhead_target of_bits of_int
returns c =
    c.max.ensures ∙ rw (c.saturating_f64_to_u64.ensures, c.pow2-m.ensures)
