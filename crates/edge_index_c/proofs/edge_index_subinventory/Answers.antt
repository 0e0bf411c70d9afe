-- What the entry answers goes out as three numbers, and its refusal as its own.
use mathlib.Core.Path.{◌≡◌, refl, sym, ap, ◌∙◌}
use Rattle.rank_sel.specs.Outcome.{Outcome, answer, and_then}
use Rattle.inventory.specs.declared.summary.Summary.{Summary}
use Rattle.read_inventory.specs.Jump.{Part, stored, store_of}
use Rattle.read_inventory.specs.declared.jump.CellPart.{CellPart}
use Rattle.rank_sel.specs.declared.Refusal.{Refusal}
use Rattle.std.specs.Prelude.{Result, Ok}
use Rattle.edge_index_c.specs.Calls.{Cells, part_numbers, subinventory_c}
use Rattle.edge_index_c.proofs.Returns.{returned_yes, returned_no}
use Rattle.edge_index_c.proofs.edge_index_subinventory.Goals.{After-subinventory_part}
use Rattle.edge_index_c.proofs.edge_index_subinventory.Goals as goal

module _ (c : After-subinventory_part) where
  -- a part as it goes out
  abbrev numbers : Result CellPart Refusal → Outcome Cells
  numbers x = and_then (stored x) (λ p. answer (part_numbers p))

  told : let a = c.args in
      numbers c.subinventory_part.result ≡ subinventory_c a.words.now a.summary.now a.inventory.now a.spill.now a.rank
  unfolding subinventory_c
  told =
      let a = c.args in
      rw (c.in-Some.ensures.0)
      (ap (λ (o : Outcome Part). and_then o (λ p. answer (part_numbers p)))
      (c.subinventory_part.ensures.reads
      ∙ ap (λ (t : Summary). store_of a.words.now t a.inventory.now a.spill.now a.rank) c.in-Some.ensures.1))

pub returns-in_default : goal.returns-in_default
unfolding subinventory_c
returns-in_default c =
    rw (c.in_default.ensures) (record { status = refl; out = refl })

pub returns-in-Ok-Inventory : goal.returns-in-Ok-Inventory
returns-in-Ok-Inventory c =
    let at_subinventory_part = (goal.at.returns-in-Ok-Inventory c).After-subinventory_part in
    returned_yes (sym (ap (numbers at_subinventory_part) (c.in-Ok-Inventory.is ∙ ap Ok c.in-Ok-Inventory.field-0-is)) ∙ told at_subinventory_part) refl

pub returns-in-Ok-Spill : goal.returns-in-Ok-Spill
returns-in-Ok-Spill c =
    let at_subinventory_part = (goal.at.returns-in-Ok-Spill c).After-subinventory_part in
    returned_yes (sym (ap (numbers at_subinventory_part) (c.in-Ok-Spill.is ∙ ap Ok c.in-Ok-Spill.field-0-is)) ∙ told at_subinventory_part) refl

pub returns-in-Err : goal.returns-in-Err
returns-in-Err c =
    let at_subinventory_part = (goal.at.returns-in-Err c).After-subinventory_part in
    returned_no (sym (ap (numbers at_subinventory_part) c.in-Err.is) ∙ told at_subinventory_part) c.status.ensures
