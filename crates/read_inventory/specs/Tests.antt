-- The tests of a call on an index: 1, 14, 2, 9, 6, 7, then those of its ranks. Document 01, "When a call is turned down".
use Rattle.std.specs.Prelude.{Bool, List, [], ◌∷◌, ◌++◌, ℕ, ◌^◌, ◌<◌, leb, ltb}
use Rattle.rank_sel.specs.Outcome.{Conditions}
use Rattle.bit_record.specs.Record.{of_record_from}
use Rattle.inventory.specs.Lawful.{of_summary, of_cells, Lawful, CellsHeld}
use Rattle.inventory.specs.declared.summary.Summary.{Summary}

-- the conditions of refusals 8 and 11, 8 by N
abbrev pub rank_too_large : ℕ → ℕ → Bool
rank_too_large num r = leb num r

abbrev pub ranks_fall : ℕ → ℕ → Bool
ranks_fall a b = ltb b a

-- ---- the tests
-- every call on an index
abbrev pub of_index : List ℕ → Summary → List ℕ → List ℕ → Conditions
of_index ws t inv sp = of_record_from ws t.plan.len t.origin ++ (of_summary t ++ of_cells t inv sp)

abbrev pub of_rank : ℕ → ℕ → Conditions
of_rank num r = (rank_too_large num r, 8) ∷ []

-- the ranks of a dwell
abbrev pub of_ranks : ℕ → ℕ → ℕ → Conditions
of_ranks num a b = of_rank num a ++ (of_rank num b ++ ((ranks_fall a b, 11) ∷ []))

-- what passing shows of a summary and its cells
pub record Legible (t : Summary) (inv sp : List ℕ) : Type 0 where
  pub short : t.plan.len < 2 ^ 62
  pub lawful : Lawful t
  pub held : CellsHeld t inv sp
