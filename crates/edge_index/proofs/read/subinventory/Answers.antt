-- No cells where hint refuses, as where the rank is too large.
use borrow.Author.Rules.{rules}
use Rattle.edge_index.proofs.Entries.{store_none, store_past}
use Rattle.edge_index.proofs.read.subinventory.Goals as goal

pub returns-clause-past : goal.returns-clause-past
returns-clause-past c = store_past _ _ _ _ _ _ (search rules)

pub returns-clause-none : goal.returns-clause-none
returns-clause-none c = store_none _ _ _ _ _ _ (search rules)
