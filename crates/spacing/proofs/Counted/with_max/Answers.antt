-- What the calls return makes the capped M, and the plan is what `with_both` returns for it.
use Rattle.std.proofs.Common.{◌≡◌, ◌∙◌, max, arith}
use Rattle.spacing.specs.Spacing.{capped_log2_words}
use Rattle.spacing.proofs.Counted.with_max.Goals as goal

pub returns : goal.returns
unfolding capped_log2_words
returns c =
    let e : c.max.result ≡ max 1 c.args.self.num = omega (arith, c.max.ensures) in
    c.with_both.ensures
    ∙ rw (
      c.min.ensures,
      c.min-most.ensures,
      c.saturating_sub-2.ensures,
      c.saturating_sub.ensures,
      c.ceil_log2-c.ensures,
      e,
    )
