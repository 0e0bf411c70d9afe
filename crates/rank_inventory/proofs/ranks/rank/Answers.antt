-- Refused by the tests of the index, or by that of the sample; or passed: then the position's rank is the answer (`rank_tested`).
use mathlib.Core.Path.{ap, ◌∙◌}
use Prim.Native.Nat.{ℕ}
use Rattle.rank_sel.specs.Outcome.{Outcome, refuse_by, and_then}
use Rattle.rank_sel.proofs.Outcome.{handed_on, tests_handed_on, passed_then}
use Rattle.bit_record.proofs.Counted.{position_within}
use Rattle.read_inventory.specs.Tests.{of_index}
use Rattle.read_inventory.proofs.Passing.{tested_then}
use Rattle.rank_inventory.specs.Rank.{rank_at}
use Rattle.rank_inventory.proofs.Ranking.{rank_tested}
use Rattle.rank_inventory.proofs.ranks.rank.Goals as goal

pub returns-in_err-index : goal.returns-in_err-index
returns-in_err-index c =
    let a = c.args in
    tests_handed_on _ _ c.from_residual.ensures (of_index a.words.now a.summary a.inventory.now a.spill.now) c.in_err-index.ensures _
    ∙ rank_tested a.words.now a.summary a.inventory.now a.spill.now a.sample

pub returns-in_err-position : goal.returns-in_err-position
returns-in_err-position c =
    let a = c.args in
    handed_on _ _ c.from_residual-in_err-position.ensures _ c.in_err-position.ensures (rank_at a.words.now a.summary a.inventory.now)
    ∙ passed_then (of_index a.words.now a.summary a.inventory.now a.spill.now) c.in_ok-index.ensures.0 _
    ∙ rank_tested a.words.now a.summary a.inventory.now a.spill.now a.sample

pub rank_at-requires : goal.rank_at-requires
rank_at-requires c =
    rw c.in_ok-index.ensures.1.summary (position_within _ _ _ _ c.in_ok-position.ensures)

pub returns : goal.returns
returns c =
    let a = c.args in
    let cs = of_index a.words.now a.summary a.inventory.now a.spill.now in
    c.rank_at.ensures
    ∙ tested_then _ _ _ _ _ cs c.in_ok-index.ensures (λ ws t inv sp. rank_at ws t inv c.in_ok-position.position)
    ∙ ap (λ (o : Outcome ℕ). refuse_by cs (and_then o (rank_at a.words.now a.summary a.inventory.now))) c.in_ok-position.ensures
    ∙ rank_tested a.words.now a.summary a.inventory.now a.spill.now a.sample
