-- A number as a run of positions: bytes, words, shifted and masked words are all instances.
use Rattle.std.specs.Prelude.{Bool, ◌≡◌, ℕ, ◌+◌, ◌^◌, ◌<◌}
use Rattle.select_in_word.specs.Bit.{bit}

-- w holds the m positions from base on: bit j is set where position base + j is selected
pub record Holds (m : ℕ) (f : ℕ → Bool) (base w : ℕ) : Type 0 where
  pub small : w < 2 ^ m
  pub bits : (j : ℕ) → j < m → bit w j ≡ f (base + j)
