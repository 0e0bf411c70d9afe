-- Numbers of some bits in cells, lowest first: quarters, halves and whole cells, over the width.
use Rattle.std.specs.Prelude.{List, [], ◌∷◌, ◌++◌, ℕ, zero, suc, ◌+◌, ◌*◌, ◌/◌, ◌%◌, ◌^◌}

-- lane t, of w bits, of a cell
unfoldable pub lane_of : ℕ → ℕ → ℕ → ℕ
lane_of w cell t = cell / 2 ^ (w * t) % 2 ^ w

-- the cell of n lanes of w bits: v 0 + v 1 * 2^w + ..
unfoldable pub pack : ℕ → (ℕ → ℕ) → ℕ → ℕ
pack w v zero = 0
pack w v (suc n) = pack w v n + v n * 2 ^ (w * n)

-- v 0, v 1, .., v (n - 1): from the back, as a loop writes
unfoldable pub tabulate : (ℕ → ℕ) → ℕ → List ℕ
tabulate v zero = []
tabulate v (suc n) = tabulate v n ++ (v n ∷ [])
