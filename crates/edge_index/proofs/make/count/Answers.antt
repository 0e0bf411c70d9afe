-- Each rank below the count has its bit.
use borrow.Author.Rules.{rules}
use Rattle.edge_index.proofs.Entries.{count_bits}
use Rattle.edge_index.proofs.make.count.Goals as goal

pub returns-clause-bits : goal.returns-clause-bits
returns-clause-bits c = count_bits _ _ _ _ (search rules)
