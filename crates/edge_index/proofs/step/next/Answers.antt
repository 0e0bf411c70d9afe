-- The edge that is answered is the first.
use borrow.Author.Rules.{rules}
use Rattle.edge_index.proofs.Entries.{next_first}
use Rattle.edge_index.proofs.step.next.Goals as goal

pub returns-clause-first : goal.returns-clause-first
returns-clause-first c = next_first _ c.args.summary _ _ (search rules)
