-- What the functions that go through an entry's cells say of them.
use Rattle.std.specs.Prelude.{List, ◌++◌, ◌≡◌, ℕ, ◌+◌, ◌-◌, ◌*◌, ◌^◌, length, drop}
use Rattle.spacing.specs.declared.Parameters.{Parameters}
use Rattle.inventory.specs.Index.{stream, own_cells, spill_cells, entries_of, inventory_len_of, spill_start, inventory_of, spill_of}
use Rattle.inventory.specs.declared.entry.Entry.{Entry}
use Rattle.spacing.specs.Spacing.{M}
use Rattle.build_inventory.specs.Placed.{pos_at}
use Rattle.build_inventory.specs.declared.planned.Placed.{Placed}
use Rattle.build_inventory.specs.declared.stream.Stream.{Stream}

-- a step of stream s over n lanes gave v, and left it as t
pub record Stepped (s : Stream) (v n : ℕ) (t : Stream) (r : ℕ) : Type 0 where
  pub gave : r ≡ v
  pub entry : t.placed.now ≡ s.placed.now
  pub number : t.k ≡ s.k + n

-- the stream from where s stands stands in the cells
pub record Wrote (s : Stream) (l₀ l : List ℕ) (t : Stream) : Type 0 where
  pub cells : l ≡ stream (pos_at s.placed.now) s.placed.now.entry s.k (length l₀)
  pub entry : t.placed.now ≡ s.placed.now
  pub number : t.k ≡ s.k + length l₀ * s.placed.now.entry.shape.lanes

-- the entry's own cells stand in front, and the stream at its first lane to spill
pub record WroteOwn (r : Placed) (before : ℕ) (l₀ l : List ℕ) (t : Stream) : Type 0 where
  pub cells : l ≡ own_cells (pos_at r) r.entry before (2 ^ M r.planned.plan) ++ drop (2 ^ M r.planned.plan + 1) l₀
  pub entry : t.placed.now ≡ r
  pub number : t.k ≡ r.entry.shape.from + (2 ^ M r.planned.plan - r.entry.shape.heads) * r.entry.shape.lanes

pub record WroteEntry (pos : ℕ → ℕ) (x : Entry) (own before : ℕ) (l₀ l s₀ s : List ℕ) : Type 0 where
  pub cells : l ≡ own_cells pos x before own ++ drop (own + 1) l₀
  pub spill : s ≡ spill_cells pos x own ++ drop x.spilled s₀

-- the whole index stands in front of what was there
pub record Filled (pos : ℕ → ℕ) (p : Parameters) (l₀ l s₀ s : List ℕ) : Type 0 where
  pub inventory : l ≡ inventory_of pos p ++ drop (inventory_len_of p) l₀
  pub spill : s ≡ spill_of pos p ++ drop (spill_start pos p (entries_of p)) s₀
