-- The bytes so far stay within the buffer.
use Rattle.std.proofs.Common.{◌≤◌, length}
use Rattle.find_edge_lib.proofs.arguments.gather.Given as goal

abbrev pub invariant-loop-i : goal.invariant-loop-i
invariant-loop-i g l = l.at ≤ length l.args
