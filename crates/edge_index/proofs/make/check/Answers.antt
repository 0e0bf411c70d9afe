-- A yes is said exactly where a build would leave all as it is, and a refusal where it would be refused.
use borrow.Author.Rules.{rules}
use Rattle.edge_index.proofs.Entries.{check_exact, check_refuses}
use Rattle.edge_index.proofs.make.check.Goals as goal

pub returns-clause-exact : goal.returns-clause-exact
returns-clause-exact c = check_exact _ _ _ _ _ _ _ _ _ (search rules)

pub returns-clause-refuses : goal.returns-clause-refuses
returns-clause-refuses c = check_refuses _ _ _ _ _ c.args.summary _ _ _ (search rules)
