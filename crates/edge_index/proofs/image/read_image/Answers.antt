-- What was read is written back, and nothing but an image is read.
use native.Mathlib.Omega.{arith}
use borrow.Author.Rules.{rules}
use Rattle.edge_index.proofs.Saved.{read_image_is, read_no_image, read_restores}
use Rattle.edge_index.proofs.image.read_image.Goals as goal

pub returns-clause-image : goal.returns-clause-image
returns-clause-image c =
    let a = c.args in
    read_image_is a.bytes.now a.inventory.now (c.read_image.new.inventory) a.spill.now (c.read_image.new.spill)
    record { small = λ i. omega (arith, c.type_inv.bytes i); short = search rules } _ (search rules)

pub returns-clause-no_image : goal.returns-clause-no_image
returns-clause-no_image c =
    let a = c.args in
    read_no_image a.bytes.now a.inventory.now (c.read_image.new.inventory) a.spill.now (c.read_image.new.spill)
    record { small = λ i. omega (arith, c.type_inv.bytes i); short = search rules } _ (search rules)

pub returns-clause-restores : goal.returns-clause-restores
returns-clause-restores c =
    let a = c.args in
    read_restores a.bytes.now a.inventory.now _ a.spill.now _
    record { small = λ i. omega (arith, c.type_inv.bytes i); short = search rules } _ (search rules)
