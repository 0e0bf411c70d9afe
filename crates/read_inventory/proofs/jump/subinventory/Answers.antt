-- The part that `subinventory_part` names lies in its slice; a refusal's is empty.
use mathlib.Core.Path.{refl}
use Rattle.read_inventory.specs.Jump.{subinventory_of}
use Rattle.read_inventory.proofs.jump.subinventory.Goals as goal

pub returns-in-Ok-Inventory : goal.returns-in-Ok-Inventory
unfolding subinventory_of
returns-in-Ok-Inventory c =
    let h = rw c.in-Ok-Inventory.field-0-is at c.in-Ok-Inventory.ensures in
    rw (← h.0) record { contents = c.part_of.ensures.contents; place = c.part_of.ensures.place }

pub returns-in-Ok-Spill : goal.returns-in-Ok-Spill
unfolding subinventory_of
returns-in-Ok-Spill c =
    let h = rw c.in-Ok-Spill.field-0-is at c.in-Ok-Spill.ensures in
    rw (← h.0) record { contents = c.part_of-in-Ok-Spill.ensures.contents; place = c.part_of-in-Ok-Spill.ensures.place }

pub returns-in-Err : goal.returns-in-Err
unfolding subinventory_of
returns-in-Err c =
    let h = c.in-Err.ensures in
    rw (← h.0) record { contents = refl; place = tt }
