-- Refused by the tests, or passed: then the two ranks have their positions, a's refusal before b's, and these lead to the dwell.
use mathlib.Core.List.{◌++◌}
use mathlib.Core.Path.{◌≡◌, ◌∙◌}
use Rattle.rank_sel.proofs.Outcome.{tests_handed_on}
use Rattle.spacing.specs.Spacing.{N}
use Rattle.read_inventory.specs.Jump.{dwell_at, dwell_of}
use Rattle.read_inventory.specs.Tests.{of_index, of_ranks}
use Rattle.read_inventory.proofs.Answers.{dwell_stops, dwell_stops_late, dwell_both}
use Rattle.read_inventory.proofs.Passing.{tested_then, refused_so}
use Rattle.read_inventory.proofs.jump.dwell.Goals.{In_ok-index}
use Rattle.read_inventory.proofs.jump.dwell.Goals as goal

-- what is read of the index that passed the tests is the answer
module _ (c : In_ok-index) where
  passed : let a = c.args in let x = c.in_ok-index.index in dwell_at x.words.now x.cells.summary x.cells.inventory.now x.cells.spill.now a.a a.b ≡ dwell_of a.words.now a.summary a.inventory.now a.spill.now a.a a.b
  unfolding dwell_of
  passed =
      let a = c.args in
      tested_then _ _ _ _ _ (of_index a.words.now a.summary a.inventory.now a.spill.now ++ of_ranks (N a.summary.plan) a.a a.b) c.in_ok-index.ensures
      (λ ws t inv sp. dwell_at ws t inv sp a.a a.b)

pub returns-in_err-index : goal.returns-in_err-index
unfolding dwell_of
returns-in_err-index c =
    let a = c.args in
    tests_handed_on _ _ c.from_residual.ensures (of_index a.words.now a.summary a.inventory.now a.spill.now ++ of_ranks (N a.summary.plan) a.a a.b)
    c.in_err-index.ensures _

pub returns-in_err-p : goal.returns-in_err-p
returns-in_err-p c =
    refused_so _ _ c.from_residual-in_err-p.ensures _
    (dwell_stops _ _ _ _ _ _ _ c.in_err-p.ensures
    ∙ passed (goal.at.returns-in_err-p c).In_ok-index)

pub returns-in_err-o : goal.returns-in_err-o
returns-in_err-o c =
    refused_so _ _ c.from_residual-in_err-o.ensures _
    (dwell_stops_late _ _ _ _ _ _ _ _ c.in_ok-p.ensures c.in_err-o.ensures
    ∙ passed (goal.at.returns-in_err-o c).In_ok-index)

pub returns : goal.returns
returns c =
    c.dwell_by.ensures
    ∙ dwell_both _ _ _ _ _ _ _ _ c.in_ok-p.ensures c.in_ok-o.ensures
    ∙ passed (goal.at.returns c).In_ok-index
