-- After i ranks their samples are written and the defined walk goes on from what is in hand (`Stands`).
use Rattle.select_list.proofs.Walk.{Stands}
use Rattle.select_list.proofs.list.walk_into.Given as goal

abbrev pub invariant-loop-i : goal.invariant-loop-i
invariant-loop-i l = Stands l.index.words.now l.index.cells.summary l.index.cells.inventory.now l.index.cells.spill.now l.ranks l.initial.places l.places l.hand l.total l.i
