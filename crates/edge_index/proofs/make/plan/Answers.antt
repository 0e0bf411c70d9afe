-- What holds of every plan.
use borrow.Author.Rules.{rules}
use Rattle.edge_index.proofs.Entries.{plan_record, plan_rule}
use Rattle.edge_index.proofs.make.plan.Goals as goal

pub returns-clause-same_record : goal.returns-clause-same_record
returns-clause-same_record c = plan_record c.args.words.now _ _ c.args.choice _ (search rules)

pub returns-clause-within_limits : goal.returns-clause-within_limits
returns-clause-within_limits c = plan_rule _ c.args.len c.args.polarity c.args.choice _ (search rules)
