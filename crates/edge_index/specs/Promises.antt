-- What build answers and leaves, and what goes on to hold of it, and of what check said yes to, while record and cells are as they were.
use Rattle.std.specs.Prelude.{true, false, List, ◌≡◌, ℕ, ◌≤◌, ◌<◌, length, get_or}
use Rattle.rank_sel.specs.Outcome.{Outcome, answer}
use Rattle.bit_record.specs.Record.{SameRecord}
use Rattle.bit_record.specs.declared.Polarity.{Polarity}
use Rattle.spacing.specs.declared.Choice.{Choice}
use Rattle.inventory.specs.declared.summary.Summary.{Summary}
use Rattle.build_inventory.specs.Build.{build_of, check_of, inventory_after, spill_after}
use Rattle.edge_index.specs.Images.{Cells}
use Rattle.edge_index.specs.Right.{Right}
use Rattle.edge_index.specs.Sound.{Sound}

-- two lists of cells that are the same within a count; past it either may have fewer, more or others
pub record SameCells (n : ℕ) (a b : List ℕ) : Type 0 where
  pub held : n ≤ length a
  pub held' : n ≤ length b
  pub cells : (i : ℕ) → i < n → get_or a i 0 ≡ get_or b i 0

-- record and cells are as they were then: vs, inv' and sp' now, ws, inv and sp then
pub record AsThen (len : ℕ) (t : Summary) (ws inv sp vs inv' sp' : List ℕ) : Type 0 where
  pub words : SameRecord len ws vs
  pub inventory : SameCells t.inventory_len inv inv'
  pub spill : SameCells t.spill_len sp sp'

-- what is promised of an index built or checked
pub record Stands (ws : List ℕ) (len origin : ℕ) (pol : Polarity) (choice : Choice) (t : Summary) (inv sp : List ℕ) : Type 0 where
  pub yes : check_of ws len origin pol choice t inv sp ≡ answer true
  pub sound : Sound ws len origin pol choice t inv sp
  pub right : Right ws len origin pol t inv sp

module _ (ws : List ℕ) (len origin : ℕ) (pol : Polarity) (choice : Choice) where
  -- what build answers for these lent cells, and what they hold afterwards
  abbrev pub build_answers : List ℕ → List ℕ → Outcome Summary
  build_answers inv sp = build_of ws len origin pol choice (length inv) (length sp)

  abbrev pub inventory_holds : List ℕ → List ℕ → List ℕ
  inventory_holds inv sp = inventory_after ws inv (build_answers inv sp)

  abbrev pub spill_holds : List ℕ → List ℕ → List ℕ
  spill_holds inv sp = spill_after ws sp (build_answers inv sp)

-- ---- what goes on to hold
-- an index that build left stands while record and cells within the counts are as they were then
abbrev pub BuiltIndexStands : Type 0
BuiltIndexStands = (ws : List ℕ) (len origin : ℕ) (pol : Polarity) (choice : Choice) (t : Summary) (inv sp vs inv' sp' : List ℕ)
    → build_answers ws len origin pol choice inv sp ≡ answer t
    → AsThen len t ws (inventory_holds ws len origin pol choice inv sp) (spill_holds ws len origin pol choice inv sp) vs inv' sp'
    → Stands vs len origin pol choice t inv' sp'

-- so does one that check said yes to
abbrev pub CheckedIndexStands : Type 0
CheckedIndexStands = (ws : List ℕ) (len origin : ℕ) (pol : Polarity) (choice : Choice) (t : Summary) (inv sp vs inv' sp' : List ℕ)
    → check_of ws len origin pol choice t inv sp ≡ answer true
    → AsThen len t ws inv sp vs inv' sp'
    → Stands vs len origin pol choice t inv' sp'

-- ---- what check says
-- yes to what build just left
abbrev pub BuiltIndexIsChecked : Type 0
BuiltIndexIsChecked = (ws : List ℕ) (len origin : ℕ) (pol : Polarity) (choice : Choice) (t : Summary) (inv sp : List ℕ)
    → build_answers ws len origin pol choice inv sp ≡ answer t
    → check_of ws len origin pol choice t
    (inventory_holds ws len origin pol choice inv sp) (spill_holds ws len origin pol choice inv sp) ≡ answer true

-- no to a summary with another origin than the one handed in, where build would answer
abbrev pub AnotherOriginIsANo : Type 0
AnotherOriginIsANo = (ws : List ℕ) (len origin : ℕ) (pol : Polarity) (choice : Choice) (t u : Summary) (inv sp : List ℕ)
    → build_answers ws len origin pol choice inv sp ≡ answer u
    → (t.origin ≡ origin → ⊥)
    → check_of ws len origin pol choice t inv sp ≡ answer false

-- yes to whatever is sound, in cells of 64 bits
abbrev pub SoundIndexIsChecked : Type 0
SoundIndexIsChecked = (ws : List ℕ) (len origin : ℕ) (pol : Polarity) (choice : Choice) (t : Summary) (inv sp : List ℕ)
    → Cells inv sp
    → Sound ws len origin pol choice t inv sp
    → check_of ws len origin pol choice t inv sp ≡ answer true

-- ---- and what a sound index is good for
abbrev pub SoundIndexIsReadRightly : Type 0
SoundIndexIsReadRightly = (ws : List ℕ) (len origin : ℕ) (pol : Polarity) (choice : Choice) (t : Summary) (inv sp : List ℕ)
    → Sound ws len origin pol choice t inv sp
    → Right ws len origin pol t inv sp
