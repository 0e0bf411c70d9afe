-- A sound index gives the bit of the mark's rank.
use borrow.Author.Rules.{rules}
use Rattle.edge_index.proofs.Entries.{hint_right}
use Rattle.edge_index.proofs.read.hint.Goals as goal

pub returns-clause-right : goal.returns-clause-right
returns-clause-right c = hint_right _ _ _ _ _ _ (search rules)
