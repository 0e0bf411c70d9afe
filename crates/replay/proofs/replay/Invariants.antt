-- Each case is read from the front, so that the rest falls.
use Rattle.std.proofs.Common.{length}
use Rattle.replay.proofs.replay.Given as goal

abbrev pub decreases-loop-left : goal.decreases-loop-left
decreases-loop-left g l = length l.left
