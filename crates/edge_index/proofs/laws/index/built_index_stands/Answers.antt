-- What build left is found again.
use Rattle.edge_index.proofs.Promises.{built_stands}
use Rattle.edge_index.proofs.laws.index.built_index_stands.Goals as goal

pub returns : goal.returns
returns c = built_stands
