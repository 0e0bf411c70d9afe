-- A summary that `admit` answers has room for its index, and the given one and the cells are held to it; a refusal stays.
use lib.ListN.{length}
use mathlib.Core.Path.{sym, ap}
use mathlib.Core.Bool.{true, false}
use Rattle.rank_sel.specs.Outcome.{answer}
use Rattle.rank_sel.proofs.Outcome.{handed_on}
use Rattle.build_inventory.specs.Build.{check_of}
use Rattle.build_inventory.proofs.Outcomes.{Admission, admission}
use Rattle.build_inventory.proofs.Summaries.{told_apart}
use Rattle.build_inventory.proofs.check.Goals.{In_ok-right}
use Rattle.build_inventory.proofs.check.Goals as goal

pub returns-in_err-right : goal.returns-in_err-right
unfolding check_of
returns-in_err-right c =
    handed_on _ _ c.from_residual.ensures _ c.in_err-right.ensures _

admits : (c : In_ok-right) →
    let a = c.args in
    Admission a.words.now a.len a.origin a.polarity a.choice (length a.inventory.now) (length a.spill.now) c.in_ok-right.right
admits c = let a = c.args in admission a.words.now a.len a.origin a.polarity a.choice _ _ _ (sym c.in_ok-right.ensures)

pub invariant_of-planned : goal.invariant_of-planned
invariant_of-planned c =
    record { of = (admits (goal.at.invariant_of-planned c).In_ok-right).plans }

pub same_index-requires : goal.same_index-requires
same_index-requires c =
    let m = admits (goal.at.same_index-requires c).In_ok-right in
    record { cells = m.room; spills = m.spill_room }

pub returns-then-ne : goal.returns-then-ne
unfolding check_of
returns-then-ne c =
    rw (← c.in_ok-right.ensures, told_apart c.args.summary c.in_ok-right.right c.ne.result true c.ne.ensures c.if-ne.true)

pub returns : goal.returns
unfolding check_of
returns c =
    rw (← c.in_ok-right.ensures, told_apart c.args.summary c.in_ok-right.right c.ne.result false c.ne.ensures c.if-ne.false)
    (ap answer c.same_index.ensures)
