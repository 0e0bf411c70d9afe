use Rattle.find_edge_input.proofs.Bits.{same_bits}
use Rattle.find_edge_input.proofs.laws.packed_words_have_the_same_bits.Goals as goal

pub returns : goal.returns
returns c bytes words small p h = same_bits bytes words small p h
