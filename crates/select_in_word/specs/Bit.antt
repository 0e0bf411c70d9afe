-- The bits of a number, lowest first.
use Rattle.std.specs.Prelude.{Bool, ℕ, ◌/◌, ◌%◌, ◌^◌, eqb}

abbrev pub odd : ℕ → Bool
odd n = eqb (n % 2) 1

-- bit j of w
unfoldable pub bit : ℕ → ℕ → Bool
bit w j = odd (w / 2 ^ j)
