-- What check saw is found again.
use Rattle.edge_index.proofs.Promises.{checked_stands}
use Rattle.edge_index.proofs.laws.index.checked_index_stands.Goals as goal

pub returns : goal.returns
returns c = checked_stands
