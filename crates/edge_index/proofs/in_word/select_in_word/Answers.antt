-- The one of a rank, and none where the rank is too large.
use native.Mathlib.Omega.{arith}
use borrow.Author.Rules.{rules}
use Rattle.edge_index.proofs.Entries.{in_word_past, in_word_right}
use Rattle.edge_index.proofs.in_word.select_in_word.Goals as goal

pub returns-clause-right : goal.returns-clause-right
returns-clause-right c = in_word_right _ _ _ (search rules)

pub returns-clause-past : goal.returns-clause-past
returns-clause-past c = in_word_past _ _ _ (search rules) (omega arith)
