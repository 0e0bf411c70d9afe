-- What the code that reads the starts asks for.
use Rattle.std.specs.Prelude.{ℕ, ◌<◌}
use Rattle.read_inventory.specs.Steps.{EntryLent}
use Rattle.read_inventory.specs.declared.index.Cells.{Cells}

-- of each entry below n its cells are lent, and the cell after them
abbrev pub EntriesLent : Cells → ℕ → Type 0
EntriesLent c n = (e : ℕ) → e < n → EntryLent c.summary c.inventory.now e
