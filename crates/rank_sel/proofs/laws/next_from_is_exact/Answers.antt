use Rattle.rank_sel.proofs.Step.{next_exact}
use Rattle.rank_sel.proofs.laws.next_from_is_exact.Goals as goal

pub returns : goal.returns
returns c = next_exact
