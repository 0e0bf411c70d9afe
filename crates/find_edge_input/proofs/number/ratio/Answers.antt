-- Both sides round to the nearest float, and their quotient too, as the definition has it.
use Rattle.find_edge_input.specs.Number.{ratio_of}
use Rattle.find_edge_input.proofs.number.ratio.Goals as goal

pub returns : goal.returns
unfolding ratio_of
returns c =
    rw (c.nearest_u64_to_f64-2.ensures, c.nearest_u64_to_f64.ensures, c.pow-scale.ensures)
