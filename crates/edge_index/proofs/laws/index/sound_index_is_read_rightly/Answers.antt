-- Each reader is right.
use Rattle.edge_index.proofs.Right.{right}
use Rattle.edge_index.proofs.laws.index.sound_index_is_read_rightly.Goals as goal

pub returns : goal.returns
returns c = right
