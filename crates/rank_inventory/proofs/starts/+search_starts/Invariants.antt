-- Each call searches fewer starts.
use Prim.Native.Nat.{◌-◌}
use Rattle.rank_inventory.proofs.starts.+search_starts.Given as goal

abbrev pub decreases-search_starts : goal.decreases-search_starts
decreases-search_starts l = l.to - l.from
