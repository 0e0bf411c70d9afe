-- Selects compared from the start.
use Rattle.std.specs.Prelude.{Bool, false, cond, List, [], ◌∷◌, ℕ, suc, eqb}
use Rattle.rank_sel.specs.Outcome.{Outcome, answer, refused}

-- whether the answer is this sample
abbrev pub is_at : ℕ → Outcome ℕ → Bool
is_at p (answer a) = eqb a p
is_at p (refused n) = false

-- of pairs of a rank and a sample, how many at the start are answered with the sample
unfoldable pub selects_alike : (ℕ → Outcome ℕ) → List ℕ → ℕ
selects_alike select [] = 0
selects_alike select (r ∷ []) = 0
selects_alike select (r ∷ p ∷ rest) = cond (is_at p (select r)) (suc (selects_alike select rest)) 0
