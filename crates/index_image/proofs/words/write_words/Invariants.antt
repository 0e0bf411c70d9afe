-- The bytes of the cells so far stand in their place, and all else as it was (`put_more`).
use mathlib.Core.Path.{◌≡◌}
use lib.ListN.{take}
use Rattle.index_image.specs.Bytes.{bytes_of, put_at}
use Rattle.index_image.proofs.words.write_words.Given as goal

abbrev pub invariant-loop-i : goal.invariant-loop-i
invariant-loop-i l = l.bytes ≡ put_at l.at (bytes_of (take l.i l.cells)) l.initial.bytes
