-- The edge that is answered is the last.
use borrow.Author.Rules.{rules}
use Rattle.edge_index.proofs.Entries.{previous_last}
use Rattle.edge_index.proofs.step.previous.Goals as goal

pub returns-clause-last : goal.returns-clause-last
returns-clause-last c = previous_last _ c.args.summary _ _ (search rules)
