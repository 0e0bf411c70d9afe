-- An L that is reckoned is not tested, so that only the maximum can be refused; past its test the plan is what `with_max` returns.
use Rattle.std.proofs.Common.{[], ◌∷◌, nat_lt}
use Rattle.rank_sel.specs.Outcome.{answer}
use Rattle.rank_sel.proofs.Outcome.{tests_handed_on}
use Rattle.spacing.proofs.Facts.{within_words}
use Rattle.spacing.specs.Spacing.{span, max_log2_words, plan_for, chosen_plan}
use Rattle.spacing.proofs.Counted.with_span.Goals as goal

pub returns-in_err-test_words : goal.returns-in_err-test_words
unfolding chosen_plan
returns-in_err-test_words c =
    let a = c.args in
    tests_handed_on _ _ c.from_residual.ensures ((nat_lt max_log2_words a.max_log2_words, 4) ∷ []) c.in_err-test_words.ensures
    (answer (plan_for a.self.polarity a.self.len a.self.num (span a.target_span a.max_log2_words)))

pub returns : goal.returns
unfolding chosen_plan plan_for
returns c =
    rw (c.with_max.ensures, c.span_log2-log2_ones.ensures)
    (simp (within_words _ c.in_ok-test_words.ensures))
