-- Each buffer is as long as it says.
use Rattle.find_edge_lib.proofs.Lengths.{long}
use Rattle.find_edge.proofs.main.Goals as goal

pub slice_bounds-buffers-end : goal.slice_bounds-buffers-end
slice_bounds-buffers-end c = long 524288

pub slice_bounds-buffers-end-2 : goal.slice_bounds-buffers-end-2
slice_bounds-buffers-end-2 c = long 147457

pub slice_bounds-buffers-end-3 : goal.slice_bounds-buffers-end-3
slice_bounds-buffers-end-3 c = long 32768

pub slice_bounds-buffers-end-4 : goal.slice_bounds-buffers-end-4
slice_bounds-buffers-end-4 c = long 1441889
