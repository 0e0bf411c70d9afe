-- Refused by the tests, or passed: then the rank's position leads to its sample.
use mathlib.Core.List.{◌++◌}
use mathlib.Core.Path.{◌≡◌, sym, ◌∙◌}
use native.Mathlib.Omega.{arith}
use Rattle.rank_sel.proofs.Outcome.{tests_handed_on}
use Rattle.spacing.specs.Spacing.{N}
use Rattle.read_inventory.specs.Jump.{sample_of, select_of}
use Rattle.read_inventory.specs.Tests.{of_index, of_rank}
use Rattle.read_inventory.proofs.Answers.{position_low, sample_stops, sample_is}
use Rattle.read_inventory.proofs.Passing.{tested_then, refused_so}
use Rattle.read_inventory.proofs.jump.select.Goals.{In_ok-index}
use Rattle.read_inventory.proofs.jump.select.Goals as goal

-- what is read of the index that passed the tests is the answer
module _ (c : In_ok-index) where
  passed : let a = c.args in let x = c.in_ok-index.index in sample_of x.words.now x.cells.summary x.cells.inventory.now x.cells.spill.now a.rank ≡ select_of a.words.now a.summary a.inventory.now a.spill.now a.rank
  unfolding select_of
  passed =
      let a = c.args in
      tested_then _ _ _ _ _ (of_index a.words.now a.summary a.inventory.now a.spill.now ++ of_rank (N a.summary.plan) a.rank) c.in_ok-index.ensures
      (λ ws t inv sp. sample_of ws t inv sp a.rank)

pub returns-in_err-index : goal.returns-in_err-index
unfolding select_of
returns-in_err-index c =
    let a = c.args in
    tests_handed_on _ _ c.from_residual.ensures (of_index a.words.now a.summary a.inventory.now a.spill.now ++ of_rank (N a.summary.plan) a.rank)
    c.in_err-index.ensures _

pub returns-in_err-position : goal.returns-in_err-position
returns-in_err-position c =
    refused_so _ _ c.from_residual-in_err-position.ensures _
    (sample_stops _ _ _ _ _ _ c.in_err-position.ensures
    ∙ passed (goal.at.returns-in_err-position c).In_ok-index)

pub sample_at-requires : goal.sample_at-requires
sample_at-requires c =
    omega (
      arith,
      position_low _ _ _ _ _ _ (sym c.in_ok-position.ensures),
      c.in_ok-index.index.from.numbered,
    )

pub returns : goal.returns
returns c =
    rw c.sample_at.ensures
    (sample_is _ _ _ _ _ _ c.in_ok-position.ensures
    ∙ passed (goal.at.returns c).In_ok-index)
