use Rattle.rank_sel.proofs.Step.{last_exact}
use Rattle.rank_sel.proofs.laws.last_before_is_exact.Goals as goal

pub returns : goal.returns
returns c = last_exact
