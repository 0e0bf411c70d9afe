-- What is read so far stands before what the cells held behind it (`words_more`).
use mathlib.Core.Path.{◌≡◌}
use mathlib.Core.List.{◌++◌}
use lib.ListN.{drop}
use Rattle.index_image.specs.Bytes.{words_from}
use Rattle.index_image.proofs.words.read_words.Given as goal

abbrev pub invariant-loop-i : goal.invariant-loop-i
invariant-loop-i l = l.cells ≡ words_from l.bytes l.at l.i ++ drop l.i l.initial.cells
