-- A sound index gives the count, and so the rank of a jump and the next edge by a jump.
use borrow.Author.Rules.{rules}
use Rattle.edge_index.proofs.Entries.{rank_at_the_end, rank_jumped, rank_next, rank_none, rank_right}
use Rattle.edge_index.proofs.read.rank.Goals as goal

pub returns-clause-right : goal.returns-clause-right
returns-clause-right c = rank_right _ _ _ _ _ _ (search rules)

pub returns-clause-jumped : goal.returns-clause-jumped
returns-clause-jumped c = rank_jumped _ _ _ _ _ _ (search rules)

pub returns-clause-next : goal.returns-clause-next
returns-clause-next c = rank_next _ _ _ _ _ _ (search rules)

pub returns-clause-none_left : goal.returns-clause-none_left
returns-clause-none_left c = rank_none _ _ _ _ _ _ (search rules)

pub returns-clause-at_the_end : goal.returns-clause-at_the_end
returns-clause-at_the_end c = rank_at_the_end _ _ _ _ _ _ (search rules)
