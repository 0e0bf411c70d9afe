-- The rules of a summary, refusal 9, and whether its cells are lent, 6 and 7. Document 01, "When a call is turned down".
use Rattle.std.specs.Prelude.{Bool, not, ◌||◌, List, [], ◌∷◌, ◌≡◌, ℕ, ◌-◌, ◌≤◌, eqb, ltb, length}
use Rattle.rank_sel.specs.Outcome.{Conditions}
use Rattle.spacing.specs.Spacing.{max_log2_words, N, L, M, S}
use Rattle.inventory.specs.Index.{inventory_len_of}
use Rattle.inventory.specs.declared.summary.Summary.{Summary}

unfoldable pub unlawful : Summary → Bool
unlawful t =
    ltb t.plan.len (N t.plan)
    || ltb 63 (L t.plan)
    || ltb max_log2_words (M t.plan)
    || not (eqb (S t.plan) (L t.plan - M t.plan - 2))
    || not (eqb t.inventory_len (inventory_len_of t.plan))

abbrev pub of_summary : Summary → Conditions
of_summary t = (unlawful t, 9) ∷ []

abbrev pub inventory_too_short : Summary → List ℕ → Bool
inventory_too_short t inv = ltb (length inv) t.inventory_len

abbrev pub spill_too_short : Summary → List ℕ → Bool
spill_too_short t sp = ltb (length sp) t.spill_len

abbrev pub of_cells : Summary → List ℕ → List ℕ → Conditions
of_cells t inv sp = (inventory_too_short t inv, 6) ∷ (spill_too_short t sp, 7) ∷ []

-- a summary that is not turned down by 9
pub record Lawful (t : Summary) : Type 0 where
  pub few : N t.plan ≤ t.plan.len
  pub small_l : L t.plan ≤ 63
  pub small_m : M t.plan ≤ max_log2_words
  pub spaced : S t.plan ≡ L t.plan - M t.plan - 2
  pub counted : t.inventory_len ≡ inventory_len_of t.plan

-- the cells that it counts are lent
pub record CellsHeld (t : Summary) (inv sp : List ℕ) : Type 0 where
  pub own : t.inventory_len ≤ length inv
  pub over : t.spill_len ≤ length sp
