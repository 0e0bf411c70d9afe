-- What was written is read back.
use native.Mathlib.Omega.{arith}
use borrow.Author.Rules.{rules}
use Rattle.edge_index.proofs.Saved.{write_rest, write_restores}
use Rattle.edge_index.proofs.image.write_image.Goals as goal

pub returns-clause-restores : goal.returns-clause-restores
returns-clause-restores c =
    let a = c.args in
    write_restores a.summary a.inventory.now a.spill.now a.bytes.now _ _ (search rules)
    record { inventory = λ i. omega (arith, c.type_inv.inventory i); spill = λ i. omega (arith, c.type_inv.spill i) }
    (search rules)

pub returns-clause-rest : goal.returns-clause-rest
returns-clause-rest c = let a = c.args in write_rest a.summary a.inventory.now a.spill.now a.bytes.now _ _ (search rules)
