use Rattle.edge_index_c.proofs.Slices.{store_refuses}
use Rattle.edge_index_c.proofs.laws.store_refuses_as_hint.Goals as goal

pub returns : goal.returns
returns c = store_refuses
