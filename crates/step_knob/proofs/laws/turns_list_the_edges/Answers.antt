use Rattle.step_knob.proofs.Walk.{walk_exact}
use Rattle.step_knob.proofs.laws.turns_list_the_edges.Goals as goal

pub returns : goal.returns
returns c = walk_exact
