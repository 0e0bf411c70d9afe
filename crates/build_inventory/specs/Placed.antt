-- A record with its plan, and an entry of its index: where the bits stand, and what cells the index has room in.
use Rattle.std.specs.Prelude.{Bool, List, ◌≡◌, ℕ, ◌≤◌, ◌<◌, length}
use Rattle.bit_record.specs.Record.{selected, FoundIn}
use Rattle.bit_record.specs.declared.seeks.Found.{Found}
use Rattle.inventory.specs.Index.{mark, inventory_len_of}
use Rattle.build_inventory.specs.Positions.{pos_in, spill_len_of}
use Rattle.build_inventory.specs.declared.planned.Planned.{Planned}
use Rattle.build_inventory.specs.declared.planned.Placed.{Placed}

abbrev pub pos_of : Planned → ℕ → ℕ
pos_of r = pos_in r.words.now r.plan

abbrev pub pos_at : Placed → ℕ → ℕ
pos_at r = pos_of r.planned

-- what its record selects
abbrev pub bits_at : Placed → ℕ → Bool
bits_at r = selected r.planned.plan.polarity r.planned.words.now r.planned.plan.len

-- a bit is that of the entry's mark k, and it is known what remains in its word
pub record OnMark (r : Placed) (at : Found) (k : ℕ) : Type 0 where
  pub place : at.position ≡ mark (pos_at r) r.entry k
  pub bit : FoundIn (bits_at r) at

-- if there is such a mark
abbrev pub AtMark : Placed → Found → ℕ → Type 0
AtMark r at k = k < r.entry.marks → OnMark r at k

-- cells that a record's index has room in
pub record Lent (r : Planned) (inv sp : List ℕ) : Type 0 where
  pub cells : inventory_len_of r.plan ≤ length inv
  pub spills : spill_len_of r.words.now r.plan ≤ length sp
