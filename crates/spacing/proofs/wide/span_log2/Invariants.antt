-- L is below l throughout, at the start by `span_most`: each comparison finds it or lowers l (`span_below`), and below 1 it is 0.
use Rattle.std.proofs.Common.{◌<◌}
use Rattle.spacing.specs.Spacing.{span_log2}
use Rattle.spacing.proofs.wide.span_log2.Given as goal

abbrev pub invariant-loop-l : goal.invariant-loop-l
invariant-loop-l l = span_log2 l.num l.span l.len < l.l
