-- How the numbers of include/edge_index.h are read.
use Rattle.std.specs.Prelude.{Bool, cond, ◌&&◌, ℕ, eqb, leb, Float}
use Rattle.spacing.specs.declared.Choice.{Choice}
use Rattle.spacing.specs.declared.Choice.TheVariants.{Default, Span, Power, Overhead, Fixed}
use Rattle.spacing.specs.declared.Parameters.{Parameters}
use Rattle.inventory.specs.Numbers.{cut}
use Rattle.inventory.specs.declared.summary.Summary.{Summary}

-- what a call returns for a polarity or a kind that is none
abbrev pub bad_code : ℕ
bad_code = 255

unfoldable pub known : ℕ → ℕ → Bool
known polarity kind = leb polarity 1 && leb kind 4

-- 0: default; 1: span; 2: power; 3: overhead; 4: fixed. Any other is turned down before it is read. L is handed on by f
abbrev pub choice_by : (ℕ → ℕ) → ℕ → ℕ → Float → ℕ → Choice
choice_by f kind value percentage log2 =
    cond (eqb kind 0) Default
    (cond (eqb kind 1) (Span value log2)
    (cond (eqb kind 2) (Power (f value) log2) (cond (eqb kind 3) (Overhead percentage log2) (Fixed (f value) log2))))

-- cutting L to 32 bits alters no answer (proofs/Logarithms.antt)
unfoldable pub choice_at : ℕ → ℕ → Float → ℕ → Choice
choice_at kind value percentage log2 = choice_by cut kind value percentage log2

-- a plan is a summary from 0 on whose cells are not counted
abbrev pub uncounted : Parameters → Summary
uncounted p = record { plan = p; origin = 0; inventory_len = 0; spill_len = 0 }
