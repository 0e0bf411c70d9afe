-- Refused by the tests, or passed: then the mark as read is the hint, by its sample, its rank less what is passed from it on.
use mathlib.Core.List.{◌++◌}
use mathlib.Core.Path.{◌∙◌}
use native.Mathlib.Omega.{arith}
use Rattle.rank_sel.proofs.Outcome.{tests_handed_on}
use Rattle.spacing.specs.Spacing.{N}
use Rattle.read_inventory.specs.Jump.{hint_of}
use Rattle.read_inventory.specs.Tests.{of_index, of_rank}
use Rattle.read_inventory.proofs.Answers.{MarkRead, hint_by, hint_none, mark_below, passes_few}
use Rattle.read_inventory.proofs.Passing.{hint_passed}
use Rattle.read_inventory.proofs.Ten.{ten_err, ten_rank}
use Rattle.read_inventory.proofs.jump.hint.Goals.{In-Ok}
use Rattle.read_inventory.proofs.jump.hint.Goals as goal

-- the mark is read
module _ (c : In-Ok) where
  read : let x = c.in_ok-index.index in MarkRead x.cells.summary x.cells.inventory.now x.cells.spill.now c.args.rank c.in-Ok.mark
  read = record { told = c.in-Ok.ensures }

pub returns-in_err-index : goal.returns-in_err-index
unfolding hint_of
returns-in_err-index c =
    let a = c.args in
    tests_handed_on _ _ c.from_residual.ensures (of_index a.words.now a.summary a.inventory.now a.spill.now ++ of_rank (N a.summary.plan) a.rank)
    c.in_err-index.ensures _

pub returns-in_default : goal.returns-in_default
returns-in_default c =
    hint_none _ _ _ _ _ (ten_err (ten_rank _ _ _ _) _ _ c.in_default.is c.mark_of.ensures)
    ∙ hint_passed _ _ _ _ _ c.args.rank c.in_ok-index.ensures

pub sample_at-requires : goal.sample_at-requires
sample_at-requires c =
    omega (
      arith,
      mark_below (read (goal.at.sample_at-requires c).In-Ok),
      c.in_ok-index.index.from.numbered,
    )

pub overflow_sub-result : goal.overflow_sub-result
overflow_sub-result c =
    passes_few (read (goal.at.overflow_sub-result c).In-Ok)

pub returns : goal.returns
returns c =
    rw c.sample_at.ensures
    (hint_by (read (goal.at.returns c).In-Ok)
    ∙ hint_passed _ _ _ _ _ c.args.rank c.in_ok-index.ensures)
