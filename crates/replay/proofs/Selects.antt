-- The first pair that is answered otherwise is how many are answered alike.
use mathlib.Core.Bool.{Bool, not}
use mathlib.Core.List.{List, [], ◌∷◌}
use mathlib.Core.Path.{◌≡◌, refl}
use Prim.Native.Nat.{ℕ, zero, suc, ◌/◌}
use native.Mathlib.Omega.{arith}
use borrow.Author.Tests.{tests}
use lib.ListN.{length, get_or}
use Rattle.std.specs.List.{position_or_len}
use Rattle.std.specs.Simd.{first_chunks}
use Rattle.rank_sel.specs.Outcome.{Outcome}
use Rattle.replay.specs.Selects.{is_at, selects_alike}

module _ (select : ℕ → Outcome ℕ) where
  abbrev pub otherwise : List ℕ → Bool
  otherwise pair = not (is_at (get_or pair 1 0) (select (get_or pair 0 0)))

  pub selects_by_position : (n : ℕ) (xs : List ℕ) → length xs / 2 ≡ n → position_or_len otherwise (first_chunks 2 n xs) ≡ selects_alike select xs
  unfolding selects_alike
  selects_by_position zero [] h = refl
  selects_by_position zero (x ∷ []) h = refl
  selects_by_position zero (x ∷ y ∷ xs) h = absurd (omega arith)
  selects_by_position (suc n) [] h = absurd (omega arith)
  selects_by_position (suc n) (x ∷ []) h = absurd (omega arith)
  selects_by_position (suc n) (x ∷ y ∷ xs) h = grind (arith, tests, selects_by_position n xs (omega arith))
