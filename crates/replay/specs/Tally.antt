-- What a count of differences says.
use Rattle.std.specs.Prelude.{◌≡◌, ℕ}
use Rattle.spacing.specs.Spacing.{N, L, M, S}
use Rattle.spacing.specs.declared.Parameters.{Parameters}
use Rattle.replay.specs.declared.list.Figures.{Figures}

-- where none is counted after, none was before, and P holds
abbrev pub NoneMeans : ℕ → ℕ → Type 0 → Type 0
NoneMeans before after P = after ≡ 0 → (before ≡ 0) × P

-- the plan has the listed N, L, M and S
pub record SameFigures (p : Parameters) (f : Figures) : Type 0 where
  pub num : N p ≡ f.num
  pub l : L p ≡ f.log2_ones_per_inventory
  pub m : M p ≡ f.log2_words_per_subinventory
  pub s : S p ≡ f.log2_ones_per_sub16
