-- After i turns the first i words are those of the bytes, and the others as they were; each turn writes one more (`tab_more`).
use Rattle.std.proofs.Common.{◌≡◌, ◌++◌, length, drop}
use Rattle.inventory.specs.Lanes.{tabulate}
use Rattle.find_edge_input.specs.Words.{word_of}
use Rattle.find_edge_input.proofs.words.pack.Given as goal

abbrev pub invariant-loop-i : goal.invariant-loop-i
invariant-loop-i l = (length l.words ≡ length l.initial.words) × (l.words ≡ tabulate (word_of l.bytes) l.i ++ drop l.i l.initial.words)
