-- The middle start parts the rest: with one at or before the position all before it are counted, with one past it none after it is.
use native.Mathlib.Omega.{arith}
use Rattle.rank_inventory.proofs.Rising.{search_up, search_down}
use Rattle.rank_inventory.proofs.starts.+search_starts.Goals as goal

pub returns-then-start_at-position : goal.returns-then-start_at-position
returns-then-start_at-position t c =
    search_up _ _ _ _ _ _ c.requires.2 c.start_at.ensures (omega arith) (omega (arith, c.if-start_at-position.true)) _ _
    c.search_starts.ensures (omega arith) (omega arith)

pub returns-else-start_at-position : goal.returns-else-start_at-position
returns-else-start_at-position t c =
    search_down _ _ _ _ _ _ c.requires.2 c.start_at.ensures (omega arith) (omega (arith, c.if-start_at-position.false)) _
    c.search_starts-else-start_at-position.ensures (omega arith)
