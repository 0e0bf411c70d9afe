-- What is filled stays within the buffer, and is what the reads consumed.
use Rattle.std.proofs.Common.{◌≡◌, ◌-◌, ◌≤◌, length, take}
use Rattle.std.specs.Io.KnownBytes.{Consumes}
use Rattle.find_edge_lib.proofs.capture.read_full.Given as goal

abbrev pub invariant-loop-filled : goal.invariant-loop-filled
invariant-loop-filled g l = (length l.buffer ≡ length l.initial.buffer) × (l.filled ≤ length l.buffer)
    × Consumes (g.R.Read.remaining l.initial.file) (g.R.Read.remaining l.file) (take l.filled l.buffer)

abbrev pub decreases-loop-filled : goal.decreases-loop-filled
decreases-loop-filled g l = length l.initial.buffer - l.filled
