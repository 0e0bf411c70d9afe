-- What the tests of a call answer: the index that they were handed, or the refusal of the first that holds.
use Rattle.std.specs.Prelude.{List, ◌≡◌, ℕ, Result, Ok, Err}
use Rattle.rank_sel.specs.Outcome.{answer, refused, number_of, Conditions, test_by}
use Rattle.rank_sel.specs.declared.Refusal.{Refusal}
use Rattle.inventory.specs.declared.summary.Summary.{Summary}
use Rattle.read_inventory.specs.declared.index.Index.{Index}

-- the index that was handed in
pub record IndexOf (ws : List ℕ) (t : Summary) (inv sp : List ℕ) (x : Index) : Type 0 where
  pub words : x.words.now ≡ ws
  pub summary : x.cells.summary ≡ t
  pub inventory : x.cells.inventory.now ≡ inv
  pub spill : x.cells.spill.now ≡ sp

-- it passed such tests, or is turned down by them
abbrev pub Tested : Conditions → List ℕ → Summary → List ℕ → List ℕ → Result Index Refusal → Type 0
Tested cs ws t inv sp (Ok x) = (answer tt ≡ test_by cs) × IndexOf ws t inv sp x
Tested cs ws t inv sp (Err e) = refused (number_of e) ≡ test_by cs
