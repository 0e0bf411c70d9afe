-- What builds of the record and choice take.
use borrow.Author.Rules.{rules}
use Rattle.edge_index.proofs.Entries.{size_suffices}
use Rattle.edge_index.proofs.make.size.Goals as goal

pub returns-clause-suffices : goal.returns-clause-suffices
returns-clause-suffices c = size_suffices _ _ _ _ _ (search rules)
