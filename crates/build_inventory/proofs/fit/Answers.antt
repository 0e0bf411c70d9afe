-- Either the count of the inventory's cells is refused by 6, or it goes into the sizes beside the spill's count.
use mathlib.Core.Path.{refl, ◌∙◌}
use Rattle.rank_sel.proofs.Outcome.{handed_on}
use Rattle.build_inventory.proofs.Outcomes.{fitted_by}
use Rattle.build_inventory.proofs.fit.Goals as goal

pub returns-in_err-inventory : goal.returns-in_err-inventory
returns-in_err-inventory c =
    let a = c.args in
    handed_on _ _ c.from_residual.ensures _ c.in_err-inventory.ensures _ ∙ fitted_by a.planned.now.words.now a.planned.now.plan a.most refl refl

pub returns : goal.returns
returns c =
    let a = c.args in
    fitted_by a.planned.now.words.now a.planned.now.plan a.most c.in_ok-inventory.ensures c.spill_count-spill.ensures
