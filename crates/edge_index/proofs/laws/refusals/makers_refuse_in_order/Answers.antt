-- The entries that take a choice.
use Rattle.edge_index.proofs.Refusals.{makers_refuse}
use Rattle.edge_index.proofs.laws.refusals.makers_refuse_in_order.Goals as goal

pub returns : goal.returns
returns c = makers_refuse
