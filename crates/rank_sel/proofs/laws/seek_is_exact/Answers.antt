use Rattle.rank_sel.proofs.Seek.{seek_exact}
use Rattle.rank_sel.proofs.laws.seek_is_exact.Goals as goal

pub returns : goal.returns
returns c = seek_exact
