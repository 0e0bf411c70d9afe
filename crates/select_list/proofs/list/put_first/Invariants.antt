-- After i writes the first i stand in front.
use mathlib.Core.Path.{◌≡◌}
use lib.ListN.{take}
use Rattle.select_list.specs.Hand.{written}
use Rattle.select_list.proofs.list.put_first.Given as goal

abbrev pub invariant-loop-i : goal.invariant-loop-i
invariant-loop-i l = l.places ≡ written (take l.i l.held) l.initial.places
