-- A plan starts with a count: its refusals are the count's, and its answer is the choice's for what was counted.
use Rattle.std.proofs.Common.{sym, ◌∙◌, arith}
use Rattle.rank_sel.proofs.Outcome.{handed_on}
use Rattle.bit_record.proofs.Selected.{num_le}
use Rattle.bit_record.proofs.Counted.{counted}
use Rattle.spacing.specs.Spacing.{plan_of}
use Rattle.spacing.proofs.plan.Goals as goal

pub invariant_of-counted : goal.invariant_of-counted
invariant_of-counted c =
    let a = c.args in
    let e = counted a.words.now a.len a.polarity _ (sym c.in_ok-num.ensures) in
    record { few = omega (arith, e.1, num_le a.polarity a.words.now a.len) }

pub returns-in_err-num : goal.returns-in_err-num
unfolding plan_of
returns-in_err-num c =
    handed_on _ _ c.from_residual.ensures _ c.in_err-num.ensures _

pub returns : goal.returns
unfolding plan_of
returns c =
    c.with_choice.ensures ∙ rw (← c.in_ok-num.ensures)
