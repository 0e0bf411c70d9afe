-- What is promised of images, over all summaries, cells and bytes. Document 02, W-203. Bytes are below 256 and words and cells below
-- 2^64, and what is lent has a length below 2^64, as with any slice.
use Rattle.std.specs.Prelude.{true, List, ◌++◌, ◌↔◌, ◌≡◌, ℕ, ◌^◌, ◌≤◌, ◌<◌, length, take, drop}
use Rattle.rank_sel.specs.Lists.{Below}
use Rattle.rank_sel.specs.Outcome.{answer, refused}
use Rattle.bit_record.specs.declared.Polarity.{Polarity}
use Rattle.spacing.specs.declared.Choice.{Choice}
use Rattle.inventory.specs.Lawful.{CellsHeld}
use Rattle.inventory.specs.declared.summary.Summary.{Summary}
use Rattle.build_inventory.specs.Build.{check_of}
use Rattle.index_image.specs.Image.{write_of, read_of, cells_after, inventory_in, spill_in}
use Rattle.edge_index.specs.Sound.{Sound}

-- bytes, and cells, as a slice holds them
pub record Bytes (bs : List ℕ) : Type 0 where
  pub small : Below 256 bs
  pub short : length bs < 2 ^ 64

pub record Cells (inv sp : List ℕ) : Type 0 where
  pub inventory : Below (2 ^ 64) inv
  pub spill : Below (2 ^ 64) sp

-- these bytes are what writing writes for this summary, with some cells and into some place
pub record Written (t : Summary) (bs : List ℕ) : Type 0 where
  pub inventory : List ℕ
  pub spill : List ℕ
  pub cells : Cells inventory spill
  pub writes : (lent : ℕ) → length bs ≤ lent → write_of t inventory spill lent ≡ answer bs

-- what lent cells hold after these bytes are read into them
abbrev pub inventory_left : List ℕ → List ℕ → List ℕ → List ℕ
inventory_left bs inv sp = cells_after (read_of bs inv sp) (inventory_in bs) inv

abbrev pub spill_left : List ℕ → List ℕ → List ℕ → List ℕ
spill_left bs inv sp = cells_after (read_of bs inv sp) (spill_in bs) sp

-- summary and counted cells of inv and sp are what these bytes restore, into any cells that hold them
pub record Restored (t : Summary) (inv sp bs inv' sp' : List ℕ) : Type 0 where
  pub summary : read_of bs inv' sp' ≡ answer t
  pub inventory : inventory_left bs inv' sp' ≡ take t.inventory_len inv ++ drop t.inventory_len inv'
  pub spill : spill_left bs inv' sp' ≡ take t.spill_len sp ++ drop t.spill_len sp'

pub record Images : Type 0 where
  -- reading what writing wrote restores summary and counted cells
  pub written_read : (t : Summary) (inv sp bs : List ℕ) (lent : ℕ) → Cells inv sp → lent < 2 ^ 64 → write_of t inv sp lent ≡ answer bs
      → (inv' sp' : List ℕ) → CellsHeld t inv' sp' → Restored t inv sp bs inv' sp'
  -- writing what reading accepted restores the bytes, into any place that holds them
  pub read_written : (t : Summary) (bs inv sp : List ℕ) → Bytes bs → read_of bs inv sp ≡ answer t
      → (lent : ℕ) → length bs ≤ lent → write_of t (inventory_left bs inv sp) (spill_left bs inv sp) lent ≡ answer bs
  -- reading answers exactly the images that writing can produce, where the cells are lent; the summary is the one it was written for
  pub read_exact : (t : Summary) (bs inv sp : List ℕ) → Bytes bs → (read_of bs inv sp ≡ answer t) ↔ (Written t bs × CellsHeld t inv sp)
  -- and 15 is said of all others alone, whatever cells are lent
  pub read_15 : (bs inv sp : List ℕ) → Bytes bs → (read_of bs inv sp ≡ refused 15) ↔ ((t : Summary) → Written t bs → ⊥)
  -- an opened image is sound exactly where check says yes to what was read
  pub opened_sound : (ws : List ℕ) (len origin : ℕ) (pol : Polarity) (choice : Choice) (t : Summary) (bs inv sp : List ℕ) → Bytes bs
      → Cells inv sp → read_of bs inv sp ≡ answer t
      → Sound ws len origin pol choice t (inventory_left bs inv sp) (spill_left bs inv sp)
      ↔ (check_of ws len origin pol choice t (inventory_left bs inv sp) (spill_left bs inv sp) ≡ answer true)
