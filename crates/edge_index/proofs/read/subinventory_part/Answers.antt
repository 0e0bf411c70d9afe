-- It is turned down where hint is.
use borrow.Author.Rules.{rules}
use Rattle.edge_index.proofs.Entries.{part_refuses}
use Rattle.edge_index.proofs.read.subinventory_part.Goals as goal

pub returns-clause-refuses : goal.returns-clause-refuses
returns-clause-refuses c =
    let a = c.args in part_refuses a.words.now a.summary a.inventory.now a.spill.now a.rank _ (search rules)
