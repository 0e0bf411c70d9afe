use Rattle.edge_index_c.proofs.Logarithms.{summary-cut}
use Rattle.edge_index_c.proofs.laws.cut_summaries_answer_alike.Goals as goal

pub returns : goal.returns
returns c = summary-cut
