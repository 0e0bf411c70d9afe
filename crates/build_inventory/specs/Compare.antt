-- What the functions that compare cells with an entry's, and with the whole index, say of them.
use Rattle.std.specs.Prelude.{Bool, ◌&&◌, List, ◌≡◌, ℕ, ◌+◌, ◌-◌, ◌*◌, ◌^◌, length, take, Option, IfSome, is_some}
use Rattle.rank_sel.specs.Lists.{same_list}
use Rattle.spacing.specs.declared.Parameters.{Parameters}
use Rattle.inventory.specs.Index.{stream, own_cells, entries_of, inventory_len_of, spill_start, inventory_of, spill_of}
use Rattle.spacing.specs.Spacing.{M}
use Rattle.build_inventory.specs.Placed.{pos_at}
use Rattle.build_inventory.specs.declared.planned.Placed.{Placed}
use Rattle.build_inventory.specs.declared.stream.Stream.{Stream}

-- the cells, with the stream from where s stands; where they agree, it stands behind them then
pub record Compared (s : Stream) (l : List ℕ) (o : Option Stream) : Type 0 where
  pub same : is_some o ≡ same_list l (stream (pos_at s.placed.now) s.placed.now.entry s.k (length l))
  pub entry : IfSome o (λ t. t.placed.now ≡ s.placed.now)
  pub number : IfSome o (λ t. t.k ≡ s.k + length l * s.placed.now.entry.shape.lanes)

-- the front of the cells, with an entry's own; where they agree, the stream stands at its first lane to spill
pub record ComparedOwn (r : Placed) (before : ℕ) (l : List ℕ) (o : Option Stream) : Type 0 where
  pub same : is_some o ≡ same_list (take (2 ^ M r.planned.plan + 1) l) (own_cells (pos_at r) r.entry before (2 ^ M r.planned.plan))
  pub entry : IfSome o (λ t. t.placed.now ≡ r)
  pub number : IfSome o (λ t. t.k ≡ r.entry.shape.from + (2 ^ M r.planned.plan - r.entry.shape.heads) * r.entry.shape.lanes)

-- the cells within the counts are the index; what stands past them is passed over
unfoldable pub same_index : (ℕ → ℕ) → Parameters → List ℕ → List ℕ → Bool
same_index pos p inv sp =
    same_list (take (inventory_len_of p) inv) (inventory_of pos p) && same_list (take (spill_start pos p (entries_of p)) sp) (spill_of pos p)
